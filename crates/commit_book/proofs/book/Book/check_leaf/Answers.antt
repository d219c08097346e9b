use Rattle.std.proofs.Common.{◌≡◌, ◌+◌, ◌<◌, ◌≤◌, Bool, true, false, List, Some, None, length, sym, ap, ◌∙◌, arith}
use Rattle.std.specs.Option.{option_map}
use Rattle.plain_list.specs.State.{OpenSplit, is_leaf, state_after}
use Rattle.commit_book.specs.Refusals.{split_number}
use Rattle.commit_book.specs.declared.faults.BookFault.TheVariants.{Splitting}
use Rattle.commit_book.proofs.RefusalLemmas.{told_only, done_only, leaf-none, leaf-deep, leaf-split, is_leaf-names_of}
use Rattle.commit_book.proofs.book.Book.check_leaf.Goals as goal

pub returns-then-not-has_leaf : goal.returns-then-not-has_leaf
returns-then-not-has_leaf g c =
    let w = g.I.Index.WIDTH in
    let name = c.args.name.now in
    let s = state_after w c.self.inside.opening c.self.inside.history.entries in
    let none : is_leaf s.leaves name ≡ false = ap (λ (ls : List (List Bool)). is_leaf ls name) (sym c.self.invariant.names) ∙ is_leaf-names_of name c.self.inside.table.leaves ∙ sym c.has_leaf.ensures ∙ c.if-not-has_leaf.true in
    rw (← c.self.view_is) (told_only _ _ _ (leaf-none w s name none))

pub returns-then-from-gt64 : goal.returns-then-from-gt64
returns-then-from-gt64 g c =
    let w = g.I.Index.WIDTH in
    let name = c.args.name.now in
    let s = state_after w c.self.inside.opening c.self.inside.history.entries in
    let leaf : is_leaf s.leaves name ≡ true = ap (λ (ls : List (List Bool)). is_leaf ls name) (sym c.self.invariant.names) ∙ is_leaf-names_of name c.self.inside.table.leaves ∙ sym c.has_leaf.ensures ∙ c.if-not-has_leaf.false in
    let deep : 64 < length name + w = omega (arith, c.if-from-gt64.true, c.from.ensures, c.from-2.ensures, c.WIDTH.ensures, c.len.ensures.len) in
    rw (← c.self.view_is) (told_only _ _ _ (leaf-deep w s name leaf deep))

pub returns-in-Some : goal.returns-in-Some
returns-in-Some g c =
    let w = g.I.Index.WIDTH in
    let name = c.args.name.now in
    let s = state_after w c.self.inside.opening c.self.inside.history.entries in
    let leaf : is_leaf s.leaves name ≡ true = ap (λ (ls : List (List Bool)). is_leaf ls name) (sym c.self.invariant.names) ∙ is_leaf-names_of name c.self.inside.table.leaves ∙ sym c.has_leaf.ensures ∙ c.if-not-has_leaf.false in
    let short : length name + w ≤ 64 = omega (arith, c.if-from-gt64.false, c.from.ensures, c.from-2.ensures, c.WIDTH.ensures, c.len.ensures.len) in
    let split : split_number s.splits name ≡ Some c.in-Some.number = ap (λ (os : List OpenSplit). split_number os name) (sym c.self.invariant.splits) ∙ sym c.number.ensures ∙ c.in-Some.is in
    rw (← c.self.view_is) (told_only _ _ _ (leaf-split w s name leaf short ∙ ap (option_map Splitting) split))

pub returns-in-None : goal.returns-in-None
returns-in-None g c =
    let w = g.I.Index.WIDTH in
    let name = c.args.name.now in
    let s = state_after w c.self.inside.opening c.self.inside.history.entries in
    let leaf : is_leaf s.leaves name ≡ true = ap (λ (ls : List (List Bool)). is_leaf ls name) (sym c.self.invariant.names) ∙ is_leaf-names_of name c.self.inside.table.leaves ∙ sym c.has_leaf.ensures ∙ c.if-not-has_leaf.false in
    let short : length name + w ≤ 64 = omega (arith, c.if-from-gt64.false, c.from.ensures, c.from-2.ensures, c.WIDTH.ensures, c.len.ensures.len) in
    let split : split_number s.splits name ≡ None = ap (λ (os : List OpenSplit). split_number os name) (sym c.self.invariant.splits) ∙ sym c.number.ensures ∙ c.in-None.is in
    rw (← c.self.view_is) (done_only _ _ (leaf-split w s name leaf short ∙ ap (option_map Splitting) split))
