-- Rows that were summed up one after the other.
use Rattle.std.proofs.Common.{◌≡◌, ◌∙◌, ℕ, suc, ◌+◌, ◌-◌, ◌<◌, ◌^◌, min, Bool, true, List, [], ◌∷◌, length, refl, sym, ap, subst, arith}
use Rattle.std.specs.Prelude.{◌%◌}
use Rattle.std.specs.List.{AllByRecursion, FoldsTo, filter, sum_by}
use Rattle.std.specs.List.Sorted.{IsPermutation}
use Rattle.std.proofs.lemmas.List.Sorted.{length_permutation, sum_by-IsPermutation}
use Rattle.std.proofs.lemmas.List.Sums.{sum_by-cons}
use Rattle.zorder.specs.declared.points.Placed.{Placed}
use Rattle.zorder.specs.Key.{key_of}
use Rattle.zorder.proofs.Places.{key_of-point_of}
use Rattle.bucket_versions.specs.declared.row.Row.{Row}
use Rattle.index_layer.specs.Leaves.{Leaf, all_rows}
use Rattle.index_layer.specs.Stands.{Stands}
use Rattle.plain_list.specs.Places.{ArePlaces}
use Rattle.table_share.specs.Objects.{objects_of, placed_of}
use Rattle.table_share.proofs.RowObjects.{objects-permutation}
use Rattle.table_share.proofs.TableRows.{keys_fit, table_of}
use Rattle.table_share.specs.declared.sums.Sums.{Sums}
use Rattle.table_share.specs.Sums.{key_sum, sums_of, with_row}

abbrev row_sum : List Row → ℕ
row_sum rows = sum_by (λ (r : Row). r.key) rows

-- what a fold gives whose turns each add a row
pub record HasSummed (start : Sums) (rows : List Row) (end : Sums) : Type 0 where
  pub points : start.points + length rows < 2 ^ 64 → end.points ≡ start.points + length rows
  pub sum : start.sum < 2 ^ 64 → end.sum ≡ (start.sum + row_sum rows) % 2 ^ 64

pub summed : (R : Sums → Row → Sums → Type 0) → ((p : Sums) (r : Row) (q : Sums) → R p r q → q ≡ with_row p r) → (start : Sums) (rows : List Row) (end : Sums) → FoldsTo R start rows end → HasSummed start rows end
summed R turn start [] end folds = record {
  points = λ fits. sym (ap (λ (s : Sums). s.points) folds) ∙ omega arith;
  sum = λ fits. sym (ap (λ (s : Sums). s.sum) folds) ∙ omega (arith, fits);
}
summed R turn start (r ∷ rows) end (mid, step, rest) =
    let is = turn start r mid step in
    let points : mid.points ≡ min (start.points + 1) (2 ^ 64 - 1) = ap (λ (s : Sums). s.points) is in
    let sum : mid.sum ≡ (start.sum + r.key) % 2 ^ 64 = ap (λ (s : Sums). s.sum) is in
    let more = summed R turn mid rows end rest in
    let all : row_sum (r ∷ rows) ≡ r.key + row_sum rows = sum_by-cons (λ (q : Row). q.key) r rows in
    record {
      points = λ fits. let now = more.points (omega (arith, points, fits)) in omega (arith, now, points, fits);
      sum = λ fits. let now = more.sum (omega (arith, sum)) in omega (arith, now, sum, all);
    }

filter-all : (ms : List Placed) → filter (λ m. true) ms ≡ ms
filter-all [] = refl
filter-all (m ∷ ms) = ap (λ (l : List Placed). m ∷ l) (filter-all ms)

-- the objects of rows have the keys of the rows
keys-same : (rows : List Row) → AllByRecursion (λ (r : Row). r.key < 2 ^ 64) rows → key_sum (objects_of rows) ≡ row_sum rows
keys-same [] fit = refl
keys-same (r ∷ rows) fit =
    sum_by-cons (λ (m : Placed). key_of m.at) (placed_of r) (objects_of rows) ∙ (λ i. key_of-point_of r.key fit.0 i + keys-same rows fit.1 i) ∙ sym (sum_by-cons (λ (q : Row). q.key) r rows)

-- all rows of leaves that stand for places give the numbers of the places
pub sums-of_places : (leaves : List Leaf) (places : List Placed) (names : List (List Bool)) (end : Sums) → ArePlaces places → Stands leaves places names → HasSummed (record { points = 0; sum = 0 }) (all_rows leaves) end → end ≡ sums_of places
sums-of_places leaves places names end are_places stands all =
    let table = table_of leaves places names stands in
    let rows = all_rows leaves in
    let some : IsPermutation (filter (λ m. true) places) (filter (λ m. true) (objects_of rows)) = objects-permutation (λ m. true) places rows are_places.rising are_places.points table.ordered table.has in
    let same : IsPermutation places (objects_of rows) =
    subst (λ (l : List Placed). IsPermutation l (objects_of rows)) (filter-all places) (subst (λ (l : List Placed). IsPermutation (filter (λ m. true) places) l) (filter-all (objects_of rows)) some) in
    let count : length (objects_of rows) ≡ length places = length_permutation places (objects_of rows) same in
    let counted : length rows ≡ length (objects_of rows) = lengths rows in
    let keys : key_sum (objects_of rows) ≡ key_sum places = sum_by-IsPermutation (λ (m : Placed). key_of m.at) places (objects_of rows) same in
    let of_rows = keys-same rows (keys_fit places rows table) in
    let points : end.points ≡ length places = omega (arith, all.points (omega (arith, count, counted, are_places.size)), count, counted) in
    let plain : 0 + row_sum rows ≡ key_sum places = omega (arith, of_rows, keys) in
    let sum : end.sum ≡ key_sum places % 2 ^ 64 = all.sum (omega arith) ∙ ap (λ n. n % 2 ^ 64) plain in
    λ i. record { points = points i; sum = sum i }
  where
    lengths : (rs : List Row) → length rs ≡ length (objects_of rs)
    lengths [] = refl
    lengths (r ∷ rs) = ap suc (lengths rs)
