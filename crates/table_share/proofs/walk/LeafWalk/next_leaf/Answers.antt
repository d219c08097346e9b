use Rattle.std.proofs.Common.{◌≡◌, ◌∷◌, List, Some, ap, sym, ◌∙◌, subst}
use Rattle.std.specs.Arc.{arc_value}
use Rattle.index_layer.specs.Leaves.{Leaf}
use Rattle.index_layer.specs.Walk.{leaves_left, IsAt}
use Rattle.index_layer.proofs.WalkLemmas.{next_leaf-is, left_after}
use Rattle.table_share.proofs.walk.LeafWalk.next_leaf.Goals as goal

pub invariant_of-self : goal.invariant_of-self
invariant_of-self g c =
    let leaves : List Leaf = g.I.Index.leaves c.self.inside.index.now in
    let l : Leaf = record { name = c.leaf_of-name.result.0; bucket = arc_value c.leaf_of-name.result.1.now } in
    let was : c.self.inside.key ≡ Some c.in_ok-key.key = c.in_ok-key.was in
    let at : IsAt (Some c.in_ok-key.key) leaves = subst (λ k. IsAt k leaves) was c.self.invariant in
    let next = next_leaf-is c.in_ok-key.key leaves l (g.met.I.Index.are_leaves c.self.inside.index.now).tile at c.leaf_of-name.ensures in
    (left_after c.key_range-last.result.1 c.checked_add-self-inside.result c.in_ok-key.key leaves l c.key_range-last.ensures.last c.checked_add-self-inside.ensures next).1

pub returns : goal.returns
returns g c =
    let leaves : List Leaf = g.I.Index.leaves c.self.inside.index.now in
    let l : Leaf = record { name = c.leaf_of-name.result.0; bucket = arc_value c.leaf_of-name.result.1.now } in
    let was : c.self.inside.key ≡ Some c.in_ok-key.key = c.in_ok-key.was in
    let at : IsAt (Some c.in_ok-key.key) leaves = subst (λ k. IsAt k leaves) was c.self.invariant in
    let next = next_leaf-is c.in_ok-key.key leaves l (g.met.I.Index.are_leaves c.self.inside.index.now).tile at c.leaf_of-name.ensures in
    let after = left_after c.key_range-last.result.1 c.checked_add-self-inside.result c.in_ok-key.key leaves l c.key_range-last.ensures.last c.checked_add-self-inside.ensures next in
    sym c.self.view_is ∙ ap (λ k. leaves_left k leaves) was ∙ next.left ∙ ap (λ (ls : List Leaf). l ∷ ls) (sym after.0)
