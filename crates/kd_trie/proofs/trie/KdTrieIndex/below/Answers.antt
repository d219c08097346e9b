use Rattle.std.proofs.Common.{◌≡◌, ◌∙◌, Some, true, false, [], ◌∷◌, ◌++◌, sym, ap, inr, refl}
use Rattle.std.specs.Arc.{arc_value}
use Rattle.kd_trie.specs.declared.node.Node.{Node}
use Rattle.kd_trie.specs.declared.node.Pair.{Pair}
use Rattle.bit_trie.specs.Tries.{Trie, fork, reach}
use Rattle.kd_trie.specs.Nodes.{seen, is_counted}
use Rattle.kd_trie.specs.Wholes.{sides_of, whole}
use Rattle.bit_trie.proofs.Reaching.{below-leaf, below-fork, reach-half}
use Rattle.kd_trie.proofs.Passing.{passed-at, not-past}
use Rattle.kd_trie.proofs.Counted.{with-count, stands-at, stands-for, beside-counted}
use Rattle.kd_trie.proofs.Counting.{counts-parts}
use Rattle.kd_trie.proofs.trie.KdTrieIndex.below.Goals as goal

pub returns-then-side : goal.returns-then-side
returns-then-side c =
    let s = c.args.self.now.tree in
    let p = passed-at c.args.name.now s.stem.name (sides_of s.stem) c.in-Some.side.now (seen s.root) true c.if-side.true s.stem.named c.in-Some.ensures.some c.args.self.now.are_leaves.tile in
    (p.inner, p.none, inr (record { at = p.beside; counted = λ _. beside-counted c.args.name.now (sides_of s.stem) c.in-Some.side.now c.in-Some.ensures.some s.stem.bare }), with-count s.counts_hold (c.args.name.now ++ true ∷ []) s.stem.name (whole s) s.root p.on s.counted)

pub returns-else-side : goal.returns-else-side
returns-else-side c =
    let s = c.args.self.now.tree in
    let p = passed-at c.args.name.now s.stem.name (sides_of s.stem) c.in-Some.side.now (seen s.root) false c.if-side.false s.stem.named c.in-Some.ensures.some c.args.self.now.are_leaves.tile in
    (p.inner, p.none, with-count s.counts_hold (c.args.name.now ++ false ∷ []) s.stem.name (whole s) s.root p.on s.counted, inr (record { at = p.beside; counted = λ _. beside-counted c.args.name.now (sides_of s.stem) c.in-Some.side.now c.in-Some.ensures.some s.stem.bare }))

pub returns-in-Leaf : goal.returns-in-Leaf
returns-in-Leaf c =
    let s = c.args.self.now.tree in
    let here = not-past c.args.name.now s.stem.name (whole s) (seen c.args.place.now) (c.in_default.ensures.none refl) (stands-at s.counts_hold c.args.name.now s.stem.name (whole s) c.args.place.now c.requires) in
    below-leaf (whole s) c.args.self.now.are_leaves.tile c.args.name.now (arc_value c.in-Leaf.bucket) (here ∙ ap (λ (n : Node). Some (seen n)) c.in-Leaf.is)

pub returns-in-Inner : goal.returns-in-Inner
returns-in-Inner c =
    let s = c.args.self.now.tree in
    let t : Trie = whole s in
    let name = c.args.name.now in
    let z : Trie = seen c.deref.result.now.zero in
    let o : Trie = seen c.deref-in-Inner.result.now.one in
    let at = not-past name s.stem.name t (seen c.args.place.now) (c.in_default.ensures.none refl) (stands-at s.counts_hold name s.stem.name t c.args.place.now c.requires) in
    let here : reach name t ≡ Some (fork z o) =
    at ∙ ap (λ (n : Node). Some (seen n)) c.in-Inner.is ∙ (λ i. Some (fork (seen (sym c.deref.ensures i).zero) (seen (sym c.deref-in-Inner.ensures i).one))) in
    let both = below-fork t c.args.self.now.are_leaves.tile name z o here in
    let place = stands-for s.counts_hold name s.stem.name t c.args.place.now (c.in_default.ensures.none refl) c.requires in
    let parts = λ (hold : s.counts_hold ≡ true). counts-parts c.in-Inner.pair.value (ap is_counted (sym c.in-Inner.is) ∙ place.counted hold) in
    let zero : s.counts_hold ≡ true → is_counted c.deref.result.now.zero ≡ true = λ hold. ap (λ (p : Pair). is_counted p.zero) c.deref.ensures ∙ (parts hold).zero in
    let one : s.counts_hold ≡ true → is_counted c.deref-in-Inner.result.now.one ≡ true = λ hold. ap (λ (p : Pair). is_counted p.one) c.deref-in-Inner.ensures ∙ (parts hold).one in
    (both.0, both.1, inr (record { at = reach-half name false t z o here; counted = zero }), inr (record { at = reach-half name true t z o here; counted = one }))
