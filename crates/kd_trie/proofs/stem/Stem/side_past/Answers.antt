use Rattle.std.proofs.Common.{◌≡◌, ◌∙◌, ℕ, List, length, get_or, sym, ap, arith}
use mathlib.Core.Bool.{true≢false}
use Rattle.std.specs.Arc.{arc_value}
use Rattle.kd_trie.specs.declared.stem.Side.{Side}
use Rattle.kd_trie.proofs.Passing.{going, longer-way, passing, on-test}
use Rattle.kd_trie.proofs.stem.Stem.side_past.Goals as goal

pub index-requires : goal.index-requires
index-requires c =
    let stem = c.args.self.now in
    let sides : List Side = (arc_value stem.aside).items in
    let past = going c.args.name.now stem.name (sym c.if-goes_on.ensures) in
    let few = longer-way c.args.name.now stem.name sides stem.named past in
    let same : length c.deref.result.now.items ≡ length sides = λ i. length (c.deref.ensures i).items in
    omega (arith, few, c.len.ensures.len, c.deref.result.now.ok.0, same)

pub returns-then-goes_on-clause-some : goal.returns-then-goes_on-clause-some
returns-then-goes_on-clause-some c =
    let stem = c.args.self.now in
    let sides : List Side = (arc_value stem.aside).items in
    let at : c.index.result.now ≡ get_or sides (length c.args.name.now) c.index.result.now =
    c.index.ensures ∙ (λ i. get_or (c.deref.ensures i).items c.len.result c.index.result.now) ∙ ap (λ (n : ℕ). get_or sides n c.index.result.now) c.len.ensures.len in
    passing c.args.name.now stem.name sides c.index.result.now stem.named (sym c.if-goes_on.ensures) at

pub returns-else-goes_on-clause-none : goal.returns-else-goes_on-clause-none
returns-else-goes_on-clause-none c =
    λ _ past. true≢false (sym (on-test c.args.name.now c.args.self.now.name past) ∙ sym c.if-goes_on.ensures)
