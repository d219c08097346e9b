-- Leaves of which one was folded: its rows are its base, and no rows change.
use Rattle.std.proofs.Common.{◌≡◌, ℕ, ◌<◌, Bool, true, false, cond, List, [], ◌∷◌, Some, refl, sym, ap, ◌∙◌, arith}
use Rattle.std.specs.Prelude.{◌||◌}
use Rattle.std.specs.List.{AllByRecursion}
use mathlib.Core.Bool.{true≢false}
use Rattle.zorder.specs.declared.points.Placed.{Placed}
use Rattle.zorder.specs.Name.{first_key}
use Rattle.zorder.specs.SameName.{same_name, same_name-decides}
use Rattle.zorder.specs.Tile.{tiles_from, next_key}
use Rattle.bucket_versions.specs.Rows.{as_base, has_row}
use Rattle.index_layer.specs.Leaves.{Leaf, names_of, has_name, leaf_named, replaced}
use Rattle.index_layer.specs.Stands.{HasRowsOf}
use Rattle.index_layer.proofs.LeafNames.{IsAmong, find-among, among-any}
use Rattle.point_table.specs.Crowds.{is_crowded, crowded_of}
use Rattle.point_table.proofs.Covered.{tiles}
use Rattle.point_table.proofs.CrowdLemmas.{not_named, tiles-AreFrom, next-above}

-- a leaf that is found by its name
pub named_is : (name : List Bool) (leaves : List Leaf) (leaf : Leaf) → leaf_named name leaves ≡ Some leaf → IsAmong leaves leaf × (leaf.name ≡ name)
named_is name leaves leaf named =
    let it = find-among (λ (l : Leaf). same_name l.name name) leaves leaf named in
    (it.0, (same_name-decides leaf.name name).0 it.1)

pub named_has : (name : List Bool) (leaves : List Leaf) (leaf : Leaf) → leaf_named name leaves ≡ Some leaf → has_name name leaves ≡ true
named_has name leaves leaf named =
    let it = find-among (λ (l : Leaf). same_name l.name name) leaves leaf named in
    among-any (λ (l : Leaf). same_name l.name name) leaves leaf it.0 it.1

none_has : (P : Leaf → Type 0) (name : List Bool) (leaves : List Leaf) → has_name name leaves ≡ false → AllByRecursion (λ (l : Leaf). same_name l.name name ≡ true → P l) leaves
none_has P name [] none = tt
none_has P name (l ∷ leaves) none = by_test (same_name l.name name) refl none (none_has P name leaves)
  where
    by_test : (b : Bool) → same_name l.name name ≡ b → (b || has_name name leaves) ≡ false → (has_name name leaves ≡ false → AllByRecursion (λ (m : Leaf). same_name m.name name ≡ true → P m) leaves)
        → AllByRecursion (λ (m : Leaf). same_name m.name name ≡ true → P m) (l ∷ leaves)
    by_test true e none rest = absurd (true≢false none)
    by_test false e none rest = (λ same. absurd (true≢false (sym same ∙ e)), rest none)

-- the leaf of a name is the only one of it
pub only_named : (k : ℕ) (name : List Bool) (leaves : List Leaf) (leaf : Leaf) → tiles_from k (names_of leaves) ≡ true → leaf_named name leaves ≡ Some leaf → AllByRecursion (λ (l : Leaf). same_name l.name name ≡ true → l ≡ leaf) leaves
only_named k name [] leaf tile named = tt
only_named k name (l ∷ leaves) leaf tile named = by_test (same_name l.name name) refl named (only_named (next_key l.name) name leaves leaf)
  where
    some : (a b : Leaf) → Some a ≡ Some b → a ≡ b
    some a b e = cc e

    by_test : (b : Bool) → same_name l.name name ≡ b → cond b (Some l) (leaf_named name leaves) ≡ Some leaf
        → (tiles_from (next_key l.name) (names_of leaves) ≡ true → leaf_named name leaves ≡ Some leaf → AllByRecursion (λ (m : Leaf). same_name m.name name ≡ true → m ≡ leaf) leaves)
        → AllByRecursion (λ (m : Leaf). same_name m.name name ≡ true → m ≡ leaf) (l ∷ leaves)
    by_test true e here rest =
        let t = tiles k l.name (names_of leaves) tile in
        let is : l.name ≡ name = (same_name-decides l.name name).0 e in
        let lt : first_key name < next_key l.name = omega (arith, ap first_key is, next-above l.name) in
        (λ same. some l leaf here, none_has (λ (m : Leaf). m ≡ leaf) name leaves (not_named name leaves (next_key l.name) lt (tiles-AreFrom (next_key l.name) (names_of leaves) t.rest)))
    by_test false e later rest = (λ same. absurd (true≢false (sym same ∙ e)), rest (tiles k l.name (names_of leaves) tile).rest later)

module _ (name : List Bool) (leaf : Leaf) where
  -- whether a leaf is to be split doesn't rest on its base
  crowded_if : (w size : ℕ) (b : Bool) (l : Leaf) (names : List (List Bool)) → (b ≡ true → l ≡ leaf)
      → (let m : Leaf = cond b (record { name = l.name; bucket = as_base leaf.bucket.rows }) l in cond (is_crowded w size m) (m.name ∷ names) names) ≡ cond (is_crowded w size l) (l.name ∷ names) names
  crowded_if w size true l names only = ap (λ (m : Leaf). cond (is_crowded w size (record { name = l.name; bucket = as_base m.bucket.rows })) (l.name ∷ names) names) (sym (only refl))
  crowded_if w size false l names only = refl

  pub crowded_of-folded : (w size : ℕ) (leaves : List Leaf) → AllByRecursion (λ (l : Leaf). same_name l.name name ≡ true → l ≡ leaf) leaves
      → crowded_of w size (replaced name (as_base leaf.bucket.rows) leaves) ≡ crowded_of w size leaves
  crowded_of-folded w size [] only = refl
  crowded_of-folded w size (l ∷ leaves) only =
      crowded_if w size (same_name l.name name) l (crowded_of w size (replaced name (as_base leaf.bucket.rows) leaves)) only.0
      ∙ ap (λ (names : List (List Bool)). cond (is_crowded w size l) (l.name ∷ names) names) (crowded_of-folded w size leaves only.1)

  rows_if : (places : List Placed) (b : Bool) (l : Leaf) → (b ≡ true → l ≡ leaf) → HasRowsOf places l → HasRowsOf places (cond b (record { name = l.name; bucket = as_base leaf.bucket.rows }) l)
  rows_if places true l only rows = λ r. ap (λ (m : Leaf). has_row r m.bucket.rows) (sym (only refl)) ∙ rows r
  rows_if places false l only rows = rows

  pub rows_folded : (places : List Placed) (leaves : List Leaf) → AllByRecursion (λ (l : Leaf). same_name l.name name ≡ true → l ≡ leaf) leaves → AllByRecursion (HasRowsOf places) leaves
      → AllByRecursion (HasRowsOf places) (replaced name (as_base leaf.bucket.rows) leaves)
  rows_folded places [] only rows = tt
  rows_folded places (l ∷ leaves) only rows = (rows_if places (same_name l.name name) l only.0 rows.0, rows_folded places leaves only.1 rows.1)
