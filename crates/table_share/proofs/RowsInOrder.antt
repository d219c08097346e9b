-- All rows of an index, one leaf after the other, are in order.
use Rattle.std.proofs.Common.{◌≡◌, ℕ, ◌^◌, ◌<◌, ◌≤◌, Bool, true, false, ◌&&◌, ◌||◌, List, [], ◌∷◌, ◌++◌, ltb, refl, sym, ◌∙◌, ap, subst, arith, cond}
use Rattle.std.specs.Prelude.{nat_le}
use Rattle.std.specs.List.{filter, AllByRecursion}
use Rattle.std.specs.Cmp.{second_so}
use Rattle.std.proofs.lemmas.Bool.{ltb-true, lt-ltb, leb-true}
use Rattle.std.proofs.lemmas.Bool.Decides.{nat_tests}
use Rattle.std.proofs.lemmas.List.Elements.{filter-append}
use Rattle.zorder.specs.declared.points.Placed.{Placed}
use Rattle.zorder.specs.Tile.{tiles_from, next_key}
use Rattle.zorder.proofs.Ranges.{under-range}
use Rattle.bucket_versions.specs.declared.row.Row.{Row}
use Rattle.bucket_versions.specs.Rows.{IsRows, IsAbove, has_row, same_row, is_below, rows_between}
use Rattle.bucket_versions.proofs.RowOrder.{IsRows-filter, same_row-refl}
use Rattle.index_layer.specs.Leaves.{Leaf, AreUnder, AreLeaves, names_of, all_rows}
use Rattle.index_layer.specs.Stands.{Stands}
use Rattle.index_layer.proofs.LeafKeys.{tile_short, tile_first, tile_rest, first_key-next}
use Rattle.index_layer.proofs.Standing.{rows_of_places, placed_key-lt}

-- rows below a key, and then rows from it on
below_by_key : (k : ℕ) (x y : Row) → x.key < k → k ≤ y.key → is_below x y ≡ true
below_by_key k x y lt le = grind (arith, nat_tests)

pub IsRows-joined : (k : ℕ) (xs ys : List Row) → IsRows xs → IsRows ys → AllByRecursion (λ (r : Row). r.key < k) xs → AllByRecursion (λ (r : Row). k ≤ r.key) ys → IsRows (xs ++ ys)
IsRows-joined k [] ys rising_x rising_y low high = rising_y
IsRows-joined k (x ∷ xs) ys rising_x rising_y low high = (above xs rising_x.0, IsRows-joined k xs ys rising_x.1 rising_y low.1 high)
  where
    all_above : (zs : List Row) → AllByRecursion (λ (r : Row). k ≤ r.key) zs → IsAbove x zs
    all_above [] all = tt
    all_above (z ∷ zs) all = (below_by_key k x z low.0 all.0, all_above zs all.1)

    above : (zs : List Row) → IsAbove x zs → IsAbove x (zs ++ ys)
    above [] a = all_above ys high
    above (z ∷ zs) a = (a.0, above zs a.1)

joined : (P : Row → Type 0) (xs ys : List Row) → AllByRecursion P xs → AllByRecursion P ys → AllByRecursion P (xs ++ ys)
joined P [] ys first second = second
joined P (x ∷ xs) ys first second = (first.0, joined P xs ys first.1 second)

module _ (p : Row → Bool) (fits : (r : Row) → p r ≡ true → r.key < 2 ^ 64) where
  kept_if : (P : Row → Type 0) (b : Bool) (s : Row) (rest : List Row) → (b ≡ true → P s) → AllByRecursion P rest → AllByRecursion P (cond b (s ∷ rest) rest)
  kept_if P true s rest here later = (here refl, later)
  kept_if P false s rest here later = later

  -- the rows of a leaf that pass lie in its range
  rows_low : (l : Leaf) (k : ℕ) (leaves : List Leaf) (rows : List Row) → tiles_from k (names_of (l ∷ leaves)) ≡ true → AreUnder l.name rows → AllByRecursion (λ (r : Row). r.key < next_key l.name) (filter p rows)
  rows_low l k leaves [] tile under = tt
  rows_low l k leaves (s ∷ rows) tile under =
      kept_if (λ r. r.key < next_key l.name) (p s) s (filter p rows) (λ e. (under-range l.name s.key (tile_short k l leaves tile) (fits s e) under.0).1) (rows_low l k leaves rows tile under.1)

  rows_high : (j : ℕ) (l : Leaf) (k : ℕ) (leaves : List Leaf) (rows : List Row) → j ≤ k → tiles_from k (names_of (l ∷ leaves)) ≡ true → AreUnder l.name rows → AllByRecursion (λ (r : Row). j ≤ r.key) (filter p rows)
  rows_high j l k leaves [] le tile under = tt
  rows_high j l k leaves (s ∷ rows) le tile under =
      kept_if (λ r. j ≤ r.key) (p s) s (filter p rows)
      (λ e. let range = under-range l.name s.key (tile_short k l leaves tile) (fits s e) under.0 in omega (arith, range.0, tile_first k l leaves tile, le)) (rows_high j l k leaves rows le tile under.1)

  all_high : (j k : ℕ) (leaves : List Leaf) → j ≤ k → tiles_from k (names_of leaves) ≡ true → AllByRecursion (λ (l : Leaf). AreUnder l.name l.bucket.rows) leaves → AllByRecursion (λ (r : Row). j ≤ r.key) (filter p (all_rows leaves))
  all_high j k [] le tile under = tt
  all_high j k (l ∷ leaves) le tile under =
      let P : List Row → Type 0 = λ rows. AllByRecursion (λ (r : Row). j ≤ r.key) rows in
      subst P (sym (filter-append p l.bucket.rows (all_rows leaves)))
      (joined (λ r. j ≤ r.key) (filter p l.bucket.rows) (filter p (all_rows leaves)) (rows_high j l k leaves l.bucket.rows le tile under.0)
      (all_high j (next_key l.name) leaves (omega (arith, le, tile_first k l leaves tile, first_key-next l.name)) (tile_rest k l leaves tile) under.1))

  rows_from : (k : ℕ) (leaves : List Leaf) → tiles_from k (names_of leaves) ≡ true → AllByRecursion (λ (l : Leaf). IsRows l.bucket.rows) leaves → AllByRecursion (λ (l : Leaf). AreUnder l.name l.bucket.rows) leaves
      → IsRows (filter p (all_rows leaves))
  rows_from k [] tile rising under = tt
  rows_from k (l ∷ leaves) tile rising under =
      subst IsRows (sym (filter-append p l.bucket.rows (all_rows leaves)))
      (IsRows-joined (next_key l.name) (filter p l.bucket.rows) (filter p (all_rows leaves)) (IsRows-filter p l.bucket.rows rising.0) (rows_from (next_key l.name) leaves (tile_rest k l leaves tile) rising.1 under.1)
      (rows_low l k leaves l.bucket.rows tile under.0) (all_high (next_key l.name) (next_key l.name) leaves (omega arith) (tile_rest k l leaves tile) under.1))

  -- rows with keys that are numbers of 64 bits
  pub IsRows-kept : (leaves : List Leaf) → AreLeaves leaves → IsRows (filter p (all_rows leaves))
  IsRows-kept leaves a = rows_from 0 leaves a.tile a.rows a.under

-- the rows with keys between two are in order
pub IsRows-between : (lo hi : ℕ) (leaves : List Leaf) → hi < 2 ^ 64 → AreLeaves leaves → IsRows (rows_between lo hi (all_rows leaves))
IsRows-between lo hi leaves fits a =
    IsRows-kept (λ r. nat_le lo r.key && nat_le r.key hi) (λ r e. let le : r.key ≤ hi = leb-true r.key hi (second_so (nat_le lo r.key) (nat_le r.key hi) e) in omega (arith, le, fits)) leaves a

-- all rows of an index that stands for places are in order
pub IsRows-all_rows : (leaves : List Leaf) (places : List Placed) (names : List (List Bool)) → Stands leaves places names → IsRows (all_rows leaves)
IsRows-all_rows leaves places names stands =
    subst IsRows (all_kept (all_rows leaves) (all_fit (all_rows leaves) (λ r e. lt-ltb r.key (2 ^ 64) (placed_key-lt places r (sym (rows_of_places leaves places names stands r) ∙ e)))))
    (IsRows-kept (λ r. ltb r.key (2 ^ 64)) (λ r e. ltb-true r.key (2 ^ 64) e) leaves stands.are_leaves)
  where
    all_kept : (rows : List Row) → AllByRecursion (λ (r : Row). ltb r.key (2 ^ 64) ≡ true) rows → filter (λ (r : Row). ltb r.key (2 ^ 64)) rows ≡ rows
    all_kept [] all = refl
    all_kept (s ∷ rows) all = (λ i. cond (all.0 i) (s ∷ filter (λ (r : Row). ltb r.key (2 ^ 64)) rows) (filter (λ (r : Row). ltb r.key (2 ^ 64)) rows)) ∙ ap (λ (l : List Row). s ∷ l) (all_kept rows all.1)

    or_true : (b : Bool) → (b || true) ≡ true
    or_true true = refl
    or_true false = refl

    all_fit : (rows : List Row) → ((r : Row) → has_row r rows ≡ true → ltb r.key (2 ^ 64) ≡ true) → AllByRecursion (λ (r : Row). ltb r.key (2 ^ 64) ≡ true) rows
    all_fit [] each = tt
    all_fit (s ∷ rows) each = (each s (λ i. same_row-refl s i || has_row s rows), all_fit rows (λ r e. each r ((λ i. same_row s r || e i) ∙ or_true (same_row s r))))
