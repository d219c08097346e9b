-- A browse begins.
use Rattle.std.proofs.Common.{◌≡◌, Bool, true, List, [], ◌∷◌, ◌++◌, length, map, ap, subst, ◌∙◌, arith}
use Rattle.std.specs.List.{filter}
use Rattle.std.specs.List.Sorted.{IsPermutation}
use Rattle.std.proofs.lemmas.List.{append-nil}
use Rattle.zorder.specs.declared.points.Point.{Point}
use Rattle.zorder.specs.declared.points.Placed.{Placed}
use Rattle.index_layer.specs.Leaves.{Leaf, all_rows}
use Rattle.index_layer.specs.Narrowed.{PassesBare}
use Rattle.plain_list.specs.Queries.{ranked}
use Rattle.table_share.specs.Objects.{objects_of}
use Rattle.table_share.specs.Standing.{OfPlaces}
use Rattle.table_share.specs.Subtree.{subtree, leaves_of}
use Rattle.table_share.proofs.Narrowings.{narrowed-rows, narrowed-fewer}
use Rattle.table_share.proofs.RowObjects.{objects-permutation}
use Rattle.table_share.proofs.Subtrees.{subtree-whole}
use Rattle.table_share.proofs.TableRows.{table_of}
use Rattle.knn_query.specs.Ahead.{leaves_ahead}
use Rattle.knn_query.specs.Waiting.{ahead_of}
use Rattle.knn_query.proofs.Passing.{filter-all}
use Rattle.browse_query.specs.Coming.{AreNoMore}
use Rattle.browse_query.specs.Found.{found_of, object_of, in_order}
use Rattle.browse_query.specs.Front.{coming, founds, leaves_left, to_come, unopened, with_nearest, Begins}
use Rattle.browse_query.specs.declared.front.Front.{Front}
use Rattle.browse_query.proofs.Orders.{in_order-ranked}

module _ {P : Type 0} (leaves : List Leaf) (is_at : P → List Bool → Type 0) (p : Point) (name : List Bool) (place : P) (front : Front P) (begins : Begins p name place front) (passed : PassesBare [] name leaves) where
  only : unopened front ≡ begins.only ∷ []
  only = λ i. with_nearest (begins.nearest i) (begins.no_others i)

  left : leaves_left leaves front ≡ subtree name leaves
  left = ap (λ ws. leaves_ahead leaves (ahead_of ws)) only ∙ append-nil (subtree begins.only.ahead.name leaves) ∙ ap (λ n. subtree n leaves) begins.named

  rows : all_rows (leaves_left leaves front) ≡ all_rows leaves
  rows = ap all_rows left ∙ narrowed-rows [] name leaves passed ∙ ap all_rows (subtree-whole leaves)

  come : to_come leaves front ≡ map (found_of p) (all_rows leaves)
  come = λ i. founds (begins.none_found i) ++ map (found_of (begins.from i)) (rows i)

  pub begins-objects : OfPlaces leaves (λ places. (coming leaves front).objects ≡ ranked p places)
  begins-objects places names are_places stands =
      let table = table_of leaves places names stands in
      let objects : IsPermutation places (objects_of (all_rows leaves)) =
      subst (λ (l : List Placed). IsPermutation l (objects_of (all_rows leaves))) (filter-all places)
      (subst (λ (l : List Placed). IsPermutation (filter (λ (m : Placed). true) places) l) (filter-all (objects_of (all_rows leaves)))
      (objects-permutation (λ (m : Placed). true) places (all_rows leaves) are_places.rising are_places.points table.ordered table.has)) in
      ap (λ cs. map object_of (in_order cs)) come ∙ in_order-ranked p places (all_rows leaves) are_places.rising objects

  pub begins-leaves : AreNoMore (coming leaves front).leaves leaves
  begins-leaves passes = omega (
    arith,
    ap (λ (ls : List Leaf). length (leaves_of passes ls)) left,
    narrowed-fewer passes [] name leaves passed,
    ap (λ (ls : List Leaf). length (leaves_of passes ls)) (subtree-whole leaves),
  )
