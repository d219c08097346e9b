-- Where no leaf is to be split, one that a row has left isn't either.
use Rattle.std.proofs.Common.{◌≡◌, ℕ, ◌≤◌, Bool, true, false, cond, not, List, [], ◌∷◌, length, Some, refl, sym, ap, ◌∙◌, arith}
use Rattle.std.specs.Prelude.{◌+◌, ◌==◌, ◌&&◌, nat_le, nat_lt}
use Rattle.std.specs.List.{filter}
use Rattle.std.proofs.lemmas.Bool.Decides.{nat_tests}
use Rattle.std.proofs.lemmas.Grind.{common_steps}
use Rattle.zorder.specs.Key.{is_under}
use Rattle.bucket_versions.specs.declared.row.Row.{Row}
use Rattle.bucket_versions.specs.declared.row.RowChange.{RowChange}
use Rattle.bucket_versions.specs.Rows.{after_gone, same_row}
use Rattle.index_layer.specs.Leaves.{Leaf, leaf_under}
use Rattle.point_table.specs.Crowded.{remarked}
use Rattle.point_table.specs.Crowds.{is_crowded, crowded_of, mark_under, left_under}

-- some of a list are no more than all
few_filter : (p : Row → Bool) (rows : List Row) → length (filter p rows) ≤ length rows
few_filter p [] = omega (arith)
few_filter p (r ∷ rows) = by_test (p r) (few_filter p rows)
  where
    by_test : (b : Bool) → length (filter p rows) ≤ length rows → length (cond b (r ∷ filter p rows) (filter p rows)) ≤ length (r ∷ rows)
    by_test true le = omega (arith, le)
    by_test false le = omega (arith, le)

-- where no leaf is to be split, the found one isn't
found_calm : (w size key : ℕ) (leaves : List Leaf) (leaf : Leaf) → crowded_of w size leaves ≡ [] → leaf_under key leaves ≡ Some leaf → is_crowded w size leaf ≡ false
found_calm w size key [] leaf none found = cc
found_calm w size key (l ∷ leaves) leaf none found = by_crowded (is_crowded w size l) refl none (found_calm w size key leaves leaf)
  where
    some_is : (a b : Leaf) → Some a ≡ Some b → a ≡ b
    some_is a b e = cc e

    by_test : (b : Bool) → cond b (Some l) (leaf_under key leaves) ≡ Some leaf → is_crowded w size l ≡ false → (leaf_under key leaves ≡ Some leaf → is_crowded w size leaf ≡ false) → is_crowded w size leaf ≡ false
    by_test true here calm later = ap (is_crowded w size) (sym (some_is l leaf here)) ∙ calm
    by_test false there calm later = later there

    by_crowded : (b : Bool) → is_crowded w size l ≡ b → cond b (l.name ∷ crowded_of w size leaves) (crowded_of w size leaves) ≡ []
        → (crowded_of w size leaves ≡ [] → leaf_under key leaves ≡ Some leaf → is_crowded w size leaf ≡ false) → is_crowded w size leaf ≡ false
    by_crowded true is some later = absurd (cc some)
    by_crowded false calm none later = by_test (is_under l.name key) found calm (later none)

-- a leaf with fewer rows isn't to be split where it wasn't before
fewer_calm : (w size m n len : ℕ) → m ≤ n → (nat_lt size n && nat_le (len + w) 64) ≡ false → (nat_lt size m && nat_le (len + w) 64) ≡ false
fewer_calm w size m n len le calm = grind (arith, nat_tests, common_steps)

not_none : (n : List Bool) (names : List (List Bool)) → (length (n ∷ names) == 0) ≡ false
not_none n names = grind (arith, nat_tests)

-- the names are the same whether that leaf is marked or not, where there are none
pub left_names : (w size key : ℕ) (gone : RowChange) (leaf : Leaf) (old : List Leaf) (names : List (List Bool)) → names ≡ crowded_of w size old → leaf_under key old ≡ Some leaf
    → left_under w size (record { name = leaf.name; bucket = after_gone gone leaf.bucket }) names ≡ mark_under w size (record { name = leaf.name; bucket = after_gone gone leaf.bucket }) names
left_names w size key gone leaf old [] was found =
    let calm = fewer_calm w size _ _ (length leaf.name) (few_filter (λ s. not (same_row s gone.row)) leaf.bucket.rows) (found_calm w size key old leaf (sym was) found) in
    sym (ap (λ b. remarked b leaf.name []) calm)
left_names w size key gone leaf old (n ∷ names) was found =
    ap (λ b. cond b (n ∷ names) (mark_under w size (record { name = leaf.name; bucket = after_gone gone leaf.bucket }) (n ∷ names))) (not_none n names)
