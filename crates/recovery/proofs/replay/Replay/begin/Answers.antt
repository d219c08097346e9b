use Rattle.std.proofs.Common.{◌≡◌, ◌+◌, is_some, sym, ap, ◌∙◌, arith, List, [], ◌∷◌, ◌++◌}
use Rattle.plain_list.specs.State.{OpenSplit}
use Rattle.recovery.specs.LeafMap.{names_of}
use Rattle.recovery.proofs.LeafMaps.{leaf_marked, is_leaf-marked, names_of-with_begun}
use Rattle.recovery.proofs.Replays.{below, without_name-split, IsReplay-begun, refuses_no_leaf, begins}
use Rattle.recovery.proofs.replay.Replay.begin.Goals as goal

pub returns-in_default-clause-steps : goal.returns-in_default-clause-steps
returns-in_default-clause-steps c =
    let none = is_leaf-marked c.self.inside.leaves c.args.name ∙ ap is_some (sym c.split_at.ensures ∙ c.in_default.is) in
    rw (← c.self.view_is) (refuses_no_leaf c.self.inside.width c.args.number c.args.name _ none)

pub begin_again-requires : goal.begin_again-requires
begin_again-requires c =
    below c.self.inside.version c.self.inside.width c.self.inside.begun c.self.inside.leaves c.self.inside.splits c.self.invariant.each c.args.number (omega (arith, c.if-number-eq0.false, c.if-number-self.false))

pub begin-requires : goal.begin-requires
begin-requires c = leaf_marked c.self.inside.leaves c.args.name c.in-Some.earlier (sym c.split_at.ensures ∙ c.in-Some.is)

pub invariant_of-self-2 : goal.invariant_of-self-2
invariant_of-self-2 c =
    let mark = sym c.split_at.ensures ∙ c.in-Some.is in
    let next : c.args.number ≡ c.self.inside.begun + 1 = omega (arith, c.if-number-eq0.false, c.if-number-self.false) in
    let ended = without_name-split c.self.inside.version c.self.inside.width c.self.inside.begun c.self.inside.leaves c.self.inside.splits c.args.name c.in-Some.earlier mark c.self.invariant.each in
    rw (c.begin.ensures, c.in_ok-begin_again.ensures.ok, ← ended)
    (IsReplay-begun c.self.inside.version c.self.inside.width c.self.inside.begun c.self.inside.leaves c.self.inside.splits c.args.name c.in-Some.earlier c.args.number c.self.invariant mark (omega (arith, c.len.ensures.len, c.if-len-self-gt64.false)) next)

pub returns-clause-steps : goal.returns-clause-steps
returns-clause-steps c =
    let w = c.self.inside in
    let mark = sym c.split_at.ensures ∙ c.in-Some.is in
    let next : c.args.number ≡ w.begun + 1 = omega (arith, c.if-number-eq0.false, c.if-number-self.false) in
    let ended = without_name-split w.version w.width w.begun w.leaves w.splits c.args.name c.in-Some.earlier mark c.self.invariant.each in
    let splits = c.in_ok-begin_again.ensures.ok ∙ ap (λ (l : List OpenSplit). l ++ record { number = c.args.number; name = c.args.name } ∷ []) (sym ended) in
    let names = ap names_of c.begin.ensures ∙ names_of-with_begun w.leaves c.args.name c.args.number in
    rw (← c.self.view_is)
    (begins w.width c.args.number c.args.name (record { world = w.members; leaves = names_of w.leaves; splits = w.splits; begun = w.begun }) _ next
    (leaf_marked w.leaves c.args.name c.in-Some.earlier mark) (omega (arith, c.len.ensures.len, c.if-len-self-gt64.false))
    (λ i. record { world = w.members; leaves = names i; splits = splits i; begun = next i }))
