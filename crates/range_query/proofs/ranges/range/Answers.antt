use Rattle.std.proofs.Common.{◌≡◌, ◌∙◌, ◌++◌, ap, length, arith, subst, List, rules}
use Rattle.std.specs.List.Sorted.{IsPermutation}
use Rattle.std.proofs.lemmas.Fn.{always_returns_same}
use Rattle.std.proofs.lemmas.List.Sorted.{IsPermutation-trans}
use Rattle.zorder.specs.declared.points.Placed.{Placed}
use Rattle.zorder.specs.Region.{has_point}
use Rattle.index_layer.specs.Leaves.{Leaf, all_rows}
use Rattle.plain_list.specs.Queries.{members_in}
use Rattle.table_share.specs.Objects.{objects_of}
use Rattle.table_share.specs.Subtree.{subtree}
use Rattle.table_share.proofs.Subtrees.{subtree-whole}
use Rattle.range_query.specs.Cut.{leaves_met, objects_held}
use Rattle.range_query.proofs.BoxLeaves.{held-met}
use Rattle.table_share.proofs.LeafRows.{leaves_under}
use Rattle.table_share.proofs.RowObjects.{objects-permutation}
use Rattle.table_share.proofs.TableRows.{table_of}
use Rattle.range_query.proofs.InOrder.{same_as_rising, IsRising-members_in}
use Rattle.range_query.proofs.ranges.range.Goals as goal

pub returns-clause-objects : goal.returns-clause-objects
returns-clause-objects g c places names are_places stands =
    let leaves : List Leaf = g.I.Index.leaves c.args.index.now in
    let region = c.args.region.now in
    let table = table_of leaves places names stands in
    let ys : List Placed = c.sort_unstable_by_key.new.self.items in
    let under = leaves_under places leaves stands.rows in
    let whole : subtree c.whole.result leaves ≡ leaves = ap (λ n. subtree n leaves) c.whole.ensures ∙ subtree-whole leaves in
    let found : c.push_below.new.found.items ≡ members_in region (objects_of (all_rows leaves)) =
    c.in_ok-push_below.ensures.objects under ∙ (λ i. c.new-found.ensures.items i ++ objects_held region (leaves_met region (whole i))) ∙ held-met region c.requires 0 leaves (g.met.I.Index.are_leaves c.args.index.now).tile under in
    let perm : IsPermutation (members_in region places) ys =
    IsPermutation-trans (members_in region places) (members_in region (objects_of (all_rows leaves))) ys
    (objects-permutation (λ (m : Placed). has_point region m.at) places (all_rows leaves) are_places.rising are_places.points table.ordered table.has)
    (subst (λ (l : List Placed). IsPermutation l ys) found c.sort_unstable_by_key.ensures.permutation) in
    let sorted = c.sort_unstable_by_key.ensures.sorted (λ m. m.id) (always_returns_same _ _ _ (λ a r q k. search rules)) in
    c.from_vec.ensures ∙ same_as_rising (members_in region places) ys (IsRising-members_in region places are_places.rising) perm sorted

pub returns-in_err-push_below-clause-opened : goal.returns-in_err-push_below-clause-opened
returns-in_err-push_below-clause-opened g c =
    let leaves : List Leaf = g.I.Index.leaves c.args.index.now in
    omega (arith, c.push_below.ensures.opened, ap (λ ls. length (leaves_met c.args.region.now ls)) (ap (λ n. subtree n leaves) c.whole.ensures ∙ subtree-whole leaves))

pub returns-clause-opened : goal.returns-clause-opened
returns-clause-opened g c =
    let leaves : List Leaf = g.I.Index.leaves c.args.index.now in
    omega (arith, c.push_below.ensures.opened, ap (λ ls. length (leaves_met c.args.region.now ls)) (ap (λ n. subtree n leaves) c.whole.ensures ∙ subtree-whole leaves))

pub returns-clause-exact : goal.returns-clause-exact
returns-clause-exact g c =
    let leaves : List Leaf = g.I.Index.leaves c.args.index.now in
    omega (arith, c.in_ok-push_below.ensures.exact, ap (λ ls. length (leaves_met c.args.region.now ls)) (ap (λ n. subtree n leaves) c.whole.ensures ∙ subtree-whole leaves))
