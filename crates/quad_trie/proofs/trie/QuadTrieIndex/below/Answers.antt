use Rattle.std.proofs.Common.{◌≡◌, Bool, List, [], ◌∷◌, ◌++◌, true, false, sym, ap, subst, arith}
use Rattle.std.specs.Arc.{arc_value}
use Rattle.bit_trie.specs.Tries.{Trie}
use Rattle.bit_trie.proofs.Reaching.{below-leaf}
use Rattle.quad_trie.specs.declared.node.Quad.{Quad}
use Rattle.quad_trie.specs.Nodes.{seen, four}
use Rattle.quad_trie.specs.Places.{IsAt}
use Rattle.quad_trie.proofs.Between.{leaf-at, halves, odd-at, one-half, zero-half}
use Rattle.quad_trie.proofs.trie.QuadTrieIndex.below.Goals as goal

pub returns-in-Leaf : goal.returns-in-Leaf
returns-in-Leaf c =
    let t : Trie = seen c.args.self.now.root in
    below-leaf t c.args.self.now.are_leaves.tile c.args.name.now (arc_value c.in-Leaf.bucket)
    (leaf-at t (arc_value c.in-Leaf.bucket) c.args.name.now (subst (λ (n : Trie). IsAt t n c.args.name.now) (ap seen c.in-Leaf.is) c.requires))

pub returns-then-len-eq0 : goal.returns-then-len-eq0
returns-then-len-eq0 c =
    let t : Trie = seen c.args.self.now.root in
    let name : List Bool = c.args.name.now in
    let q : Quad = c.in-Inner.quad.value in
    let is : seen c.args.place.now ≡ four q = ap seen c.in-Inner.is in
    let h = halves t c.args.self.now.are_leaves.tile (seen q.zero_zero) (seen q.zero_one) (seen q.one_zero) (seen q.one_one) name (omega (arith, c.if-len-eq0.true, c.len.ensures.len)) (subst (λ (n : Trie). IsAt t n name) is c.requires) in
    (h.0.inner, h.0.none, subst (λ (n : Trie). IsAt t n (name ++ false ∷ [])) (sym is) h.1, subst (λ (n : Trie). IsAt t n (name ++ true ∷ [])) (sym is) h.2)

pub returns-then-ends_with_one : goal.returns-then-ends_with_one
returns-then-ends_with_one c =
    let t : Trie = seen c.args.self.now.root in
    let name : List Bool = c.args.name.now in
    let q : Quad = c.in-Inner.quad.value in
    let m = odd-at t c.args.self.now.are_leaves.tile (seen q.zero_zero) (seen q.zero_one) (seen q.one_zero) (seen q.one_one) name (omega (arith, c.if-len-eq0.false, c.len.ensures.len)) (subst (λ (n : Trie). IsAt t n name) (ap seen c.in-Inner.is) c.requires) in
    let h = one-half t c.args.self.now.are_leaves.tile (seen q.zero_zero) (seen q.zero_one) (seen q.one_zero) (seen q.one_one) name m (sym (c.if-ends_with_one.ensures m.front m.bit m.named)) in
    (h.0.inner, h.0.none, subst (λ (p : Quad). IsAt t (seen p.one_zero) (name ++ false ∷ [])) (sym c.deref.ensures) h.1, subst (λ (p : Quad). IsAt t (seen p.one_one) (name ++ true ∷ [])) (sym c.deref-then-ends_with_one.ensures) h.2)

pub returns-else-ends_with_one : goal.returns-else-ends_with_one
returns-else-ends_with_one c =
    let t : Trie = seen c.args.self.now.root in
    let name : List Bool = c.args.name.now in
    let q : Quad = c.in-Inner.quad.value in
    let m = odd-at t c.args.self.now.are_leaves.tile (seen q.zero_zero) (seen q.zero_one) (seen q.one_zero) (seen q.one_one) name (omega (arith, c.if-len-eq0.false, c.len.ensures.len)) (subst (λ (n : Trie). IsAt t n name) (ap seen c.in-Inner.is) c.requires) in
    let h = zero-half t c.args.self.now.are_leaves.tile (seen q.zero_zero) (seen q.zero_one) (seen q.one_zero) (seen q.one_one) name m (sym (c.if-ends_with_one.ensures m.front m.bit m.named)) in
    (h.0.inner, h.0.none, subst (λ (p : Quad). IsAt t (seen p.zero_zero) (name ++ false ∷ [])) (sym c.deref-else-ends_with_one.ensures) h.1, subst (λ (p : Quad). IsAt t (seen p.zero_one) (name ++ true ∷ [])) (sym c.deref-else-ends_with_one-2.ensures) h.2)
