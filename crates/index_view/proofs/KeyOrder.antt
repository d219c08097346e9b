-- The objects of rows in order are in key order.
use Rattle.std.proofs.Common.{◌≡◌, ◌<◌, ◌^◌, Bool, true, false, cond, List, [], ◌∷◌, ◌∙◌}
use Rattle.std.specs.Prelude.{◌&&◌, ◌||◌, ◌==◌, nat_lt, IsTrue}
use Rattle.std.specs.List.{filter, FoldsTo, AllByRecursion}
use Rattle.zorder.specs.declared.points.Placed.{Placed}
use Rattle.zorder.specs.declared.points.Region.{Region}
use Rattle.zorder.specs.Region.{has_point}
use Rattle.zorder.proofs.Places.{key_of-point_of}
use Rattle.bucket_versions.specs.declared.row.Row.{Row}
use Rattle.bucket_versions.specs.Rows.{IsRows, IsAbove, is_below}
use Rattle.index_layer.specs.Leaves.{Leaf, all_rows}
use Rattle.index_layer.specs.Stands.{Stands}
use Rattle.plain_list.specs.Places.{ArePlaces}
use Rattle.plain_list.specs.Queries.{members_in}
use Rattle.table_share.specs.Objects.{placed_of, objects_of}
use Rattle.table_share.proofs.RowObjects.{objects-permutation}
use Rattle.table_share.proofs.TableRows.{keys_fit, table_of}
use Rattle.index_view.specs.Visits.{has_lesser_key, AreAfter, AreInKeyOrder, VisitsEach}

same_order : (r s : Row) → r.key < 2 ^ 64 → s.key < 2 ^ 64 → has_lesser_key (placed_of r) (placed_of s) ≡ is_below r s
same_order r s f g =
    λ i. nat_lt (key_of-point_of r.key f i) (key_of-point_of s.key g i) || ((key_of-point_of r.key f i == key_of-point_of s.key g i) && nat_lt r.id s.id)

after_row : (r : Row) (rows : List Row) → r.key < 2 ^ 64 → AllByRecursion (λ (s : Row). s.key < 2 ^ 64) rows → IsAbove r rows → AreAfter (placed_of r) (objects_of rows)
after_row r [] f all above = tt
after_row r (s ∷ rows) f all above = (same_order r s f all.0 ∙ above.0, after_row r rows f all.1 above.1)

rows_in_order : (rows : List Row) → AllByRecursion (λ (s : Row). s.key < 2 ^ 64) rows → IsRows rows → AreInKeyOrder (objects_of rows)
rows_in_order [] all rows = tt
rows_in_order (r ∷ rows) all ordered = (after_row r rows all.0 all.1 ordered.0, rows_in_order rows all.1 ordered.1)

-- some of the objects are in the same order
module _ (test : Placed → Bool) where
  after_if : (b : Bool) (m n : Placed) (ns : List Placed) → IsTrue (has_lesser_key m n) → AreAfter m ns → AreAfter m (cond b (n ∷ ns) ns)
  after_if true m n ns here later = (here, later)
  after_if false m n ns here later = later

  after_kept : (m : Placed) (ns : List Placed) → AreAfter m ns → AreAfter m (filter test ns)
  after_kept m [] after = tt
  after_kept m (n ∷ ns) after = after_if (test n) m n (filter test ns) after.0 (after_kept m ns after.1)

  order_if : (b : Bool) (m : Placed) (ms : List Placed) → AreAfter m ms → AreInKeyOrder ms → AreInKeyOrder (cond b (m ∷ ms) ms)
  order_if true m ms after order = (after, order)
  order_if false m ms after order = order

  order_kept : (ms : List Placed) → AreInKeyOrder ms → AreInKeyOrder (filter test ms)
  order_kept [] order = tt
  order_kept (m ∷ ms) order = order_if (test m) m (filter test ms) (after_kept m ms order.0) (order_kept ms order.1)

-- a visit of all objects that the rows of the leaves have in a box
pub each_visited : {V : Type 0} (does : V → Placed → V → Type 0) (region : Region) (leaves : List Leaf) (places : List Placed) (names : List (List Bool)) (before after : V) → ArePlaces places → Stands leaves places names
    → FoldsTo does before (members_in region (objects_of (all_rows leaves))) after → VisitsEach does region places before after
each_visited does region leaves places names before after are_places stands visits =
    let table = table_of leaves places names stands in
    let rows = all_rows leaves in
    record {
      objects = members_in region (objects_of rows);
      each = objects-permutation (λ (m : Placed). has_point region m.at) places rows are_places.rising are_places.points table.ordered table.has;
      in_order = order_kept (λ (m : Placed). has_point region m.at) (objects_of rows) (rows_in_order rows (keys_fit places rows table) table.ordered);
      visits = visits;
    }
