use Rattle.std.proofs.Common.{◌∙◌, inr, sym}
use mathlib.Core.Bool.{true≢false}
use Rattle.kd_trie.specs.Nodes.{seen}
use Rattle.kd_trie.specs.Wholes.{sides_of, whole}
use Rattle.kd_trie.proofs.Passing.{going, on-test, not-past}
use Rattle.bit_trie.proofs.Walking.{Narrowed, narrowed-place}
use Rattle.kd_trie.proofs.StemWalks.{narrowed-stem}
use Rattle.kd_trie.proofs.Counted.{stands-at, stands-for}
use Rattle.kd_trie.proofs.trie.KdTrieIndex.narrow.Goals as goal

along : (c : goal.After-narrowed) → Narrowed c.args.name c.narrowed.result.0 (whole c.args.self.now.tree) (seen c.narrowed.result.1.now)
along c =
    let s = c.args.self.now.tree in
    narrowed-stem c.args.name s.stem.name c.narrowed.result.0 (sides_of s.stem) (seen s.root) (seen c.narrowed.result.1.now) s.stem.named s.stem.bare (going c.args.name s.stem.name (sym c.if-goes_on.ensures)) c.narrowed.ensures.narrows

behind : (c : goal.After-narrowed-else-goes_on) → Narrowed c.args.name c.narrowed-else-goes_on.result.0 (whole c.args.self.now.tree) (seen c.narrowed-else-goes_on.result.1.now)
behind c =
    let s = c.args.self.now.tree in
    let here = not-past c.args.name s.stem.name (whole s) (seen c.args.place.now) (λ past. true≢false (sym (on-test c.args.name s.stem.name past) ∙ sym c.if-goes_on.ensures)) (stands-at s.counts_hold c.args.name s.stem.name (whole s) c.args.place.now c.requires) in
    narrowed-place c.args.name c.narrowed-else-goes_on.result.0 (whole s) (seen c.args.place.now) (seen c.narrowed-else-goes_on.result.1.now) here c.narrowed-else-goes_on.ensures.narrows

pub returns-then-goes_on-clause-at : goal.returns-then-goes_on-clause-at
returns-then-goes_on-clause-at c = inr (record { at = (along c).at; counted = λ hold. c.narrowed.ensures.counted (c.args.self.now.tree.counted hold) })

pub returns-then-goes_on-clause-passed : goal.returns-then-goes_on-clause-passed
returns-then-goes_on-clause-passed c = (along c).passed

pub returns-else-goes_on-clause-at : goal.returns-else-goes_on-clause-at
returns-else-goes_on-clause-at c =
    let s = c.args.self.now.tree in
    let place = stands-for s.counts_hold c.args.name s.stem.name (whole s) c.args.place.now (λ past. true≢false (sym (on-test c.args.name s.stem.name past) ∙ sym c.if-goes_on.ensures)) c.requires in
    inr (record { at = (behind c).at; counted = λ hold. c.narrowed-else-goes_on.ensures.counted (place.counted hold) })

pub returns-else-goes_on-clause-passed : goal.returns-else-goes_on-clause-passed
returns-else-goes_on-clause-passed c = (behind c).passed
