-- How many rows of the leaves stand for an object in a box.
use Rattle.std.proofs.Common.{◌≡◌, ℕ, ◌+◌, ◌<◌, ◌≤◌, ◌^◌, Bool, true, false, cond, List, [], ◌∷◌, ◌++◌, length, refl, sym, ap, ◌∙◌, arith}
use Rattle.std.proofs.lemmas.Grind.{flat_map-append}
use Rattle.std.proofs.lemmas.List.{append-nil}
use Rattle.std.proofs.lemmas.List.Sorted.{length_permutation}
use Rattle.std.proofs.lemmas.Bool.{false_from_ne_true}
use Rattle.zorder.specs.declared.points.Point.{Point}
use Rattle.zorder.specs.declared.points.Placed.{Placed}
use Rattle.zorder.specs.declared.points.Region.{Region}
use Rattle.zorder.specs.Region.{has_point}
use Rattle.zorder.specs.Key.{point_of, is_under, is_in, IsPoint}
use Rattle.zorder.proofs.Places.{key_of-point_of, IsPoint-point_of}
use Rattle.prefix_names.specs.Regions.{SharePoint, AllPointsIn}
use Rattle.bucket_versions.specs.declared.row.Row.{Row}
use Rattle.bucket_versions.specs.Rows.{Rows}
use Rattle.index_layer.specs.Leaves.{Leaf, all_rows}
use Rattle.index_layer.specs.Stands.{Stands}
use Rattle.index_layer.proofs.LeafChanges.{leaf_at}
use Rattle.plain_list.specs.Places.{ArePlaces}
use Rattle.plain_list.specs.Queries.{members_in}
use Rattle.table_share.specs.Objects.{placed_of, objects_of}
use Rattle.table_share.proofs.RowObjects.{objects-permutation}
use Rattle.table_share.proofs.TableRows.{table_of}
use Rattle.table_share.specs.KeysUnder.{AreKeysUnder}
use Rattle.range_query.specs.Cut.{number_in, is_cut, leaves_cut}

pub length_if : {X : Type 0} (b : Bool) (x : X) (xs : List X) → length (cond b (x ∷ xs) xs) ≡ cond b 1 0 + length xs
length_if true x xs = omega arith
length_if false x xs = omega arith

pub number_in-cons : (region : Region) (r : Row) (rows : List Row) → number_in region (r ∷ rows) ≡ cond (has_point region (point_of r.key)) 1 0 + number_in region rows
number_in-cons region r rows = length_if (has_point region (point_of r.key)) (placed_of r) (members_in region (objects_of rows))

pub number_in-append : (region : Region) (xs ys : List Row) → number_in region (xs ++ ys) ≡ number_in region xs + number_in region ys
number_in-append region [] ys = omega arith
number_in-append region (r ∷ xs) ys = omega (arith, number_in-cons region r (xs ++ ys), number_in-cons region r xs, number_in-append region xs ys)

module _ (leaf region : Region) (name : List Bool) (points : (p : Point) → IsPoint p → has_point leaf p ≡ is_in name p) where
  in_leaf : (r : Row) → r.key < 2 ^ 64 → is_under name r.key ≡ true → has_point leaf (point_of r.key) ≡ true
  in_leaf r fits under = points (point_of r.key) (IsPoint-point_of r.key) ∙ ap (is_under name) (key_of-point_of r.key fits) ∙ under

  -- a leaf inside the box has all its rows there
  pub all_in : (rows : List Row) → AllPointsIn leaf region → AreKeysUnder name rows → number_in region rows ≡ length rows
  all_in [] within under = refl
  all_in (r ∷ rows) within under =
      let here : has_point region (point_of r.key) ≡ true = within (point_of r.key) (in_leaf r under.0.0 under.0.1) in
      let one : cond (has_point region (point_of r.key)) 1 0 ≡ 1 = ap {B = ℕ} (λ b. cond b 1 0) here in
      omega (arith, number_in-cons region r rows, one, all_in rows within under.1)

  pub all_held : (rows : List Row) → AllPointsIn leaf region → AreKeysUnder name rows → members_in region (objects_of rows) ≡ objects_of rows
  all_held [] within under = refl
  all_held (r ∷ rows) within under =
      ap (λ b. cond b (placed_of r ∷ members_in region (objects_of rows)) (members_in region (objects_of rows))) (within (point_of r.key) (in_leaf r under.0.0 under.0.1))
      ∙ ap (λ (ms : List Placed). placed_of r ∷ ms) (all_held rows within under.1)

  -- a leaf that misses the box has none of its rows there
  pub none_in : (rows : List Row) → (SharePoint leaf region → ⊥) → AreKeysUnder name rows → number_in region rows ≡ 0
  none_in [] apart under = refl
  none_in (r ∷ rows) apart under =
      let out : has_point region (point_of r.key) ≡ false = false_from_ne_true (has_point region (point_of r.key)) (λ e. apart (point_of r.key, in_leaf r under.0.0 under.0.1, e)) in
      let none : cond (has_point region (point_of r.key)) 1 0 ≡ 0 = ap {B = ℕ} (λ b. cond b 1 0) out in
      omega (arith, number_in-cons region r rows, none, none_in rows apart under.1)

fewer : (region : Region) (ms : List Placed) → length (members_in region ms) ≤ length ms
fewer region [] = omega arith
fewer region (m ∷ ms) = omega (arith, fewer region ms, length_if (has_point region m.at) m (members_in region ms), at_most_one (has_point region m.at))
  where
    at_most_one : (b : Bool) → cond b 1 0 ≤ 1
    at_most_one true = omega arith
    at_most_one false = omega arith

-- leaves have as many rows in a box as there are objects
module _ (region : Region) (leaves : List Leaf) (places : List Placed) (names : List (List Bool)) (are_places : ArePlaces places) (stands : Stands leaves places names) where
  pub number_of_places : number_in region (all_rows leaves) ≡ length (members_in region places)
  number_of_places =
      let table = table_of leaves places names stands in
      length_permutation (members_in region places) (members_in region (objects_of (all_rows leaves)))
      (objects-permutation (λ (m : Placed). has_point region m.at) places (all_rows leaves) are_places.rising are_places.points table.ordered table.has)

  pub number-fits : number_in region (all_rows leaves) < 2 ^ 64
  number-fits = omega (arith, number_of_places, fewer region places, are_places.size)

-- counts of two halves of some leaves, and of one leaf
module _ (region : Region) where
  pub count_one : (rows : List Row) (ls : List Leaf) (name : List Bool) (b : Rows) → rows ≡ b.rows → ls ≡ record { name = name; bucket = b } ∷ [] → number_in region (all_rows ls) ≡ number_in region rows
  count_one rows ls name b is one =
      ap (λ (l : List Leaf). number_in region (all_rows l)) one ∙ ap (number_in region) (append-nil b.rows ∙ sym is)

  pub count_two : (ls zero one : List Leaf) → ls ≡ zero ++ one → number_in region (all_rows ls) ≡ number_in region (all_rows zero) + number_in region (all_rows one)
  count_two ls zero one both =
      ap (λ (l : List Leaf). number_in region (all_rows l)) both ∙ ap (number_in region) (flat_map-append (λ (l : Leaf). l.bucket.rows) zero one) ∙ number_in-append region (all_rows zero) (all_rows one)

  pub cut_one : (name : List Bool) (b : Rows) → length (leaves_cut region (record { name = name; bucket = b } ∷ [])) ≡ cond (is_cut region name) 1 0
  cut_one name b = omega (arith, length_if (is_cut region name) (leaf_at name b) [])
