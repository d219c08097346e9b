-- The rows of objects at their places, each once, stand for those objects.
use Rattle.std.proofs.Common.{◌≡◌, ℕ, Bool, true, false, cond, not, List, [], ◌∷◌, Option, Some, None, refl, sym, ap, subst, ◌∙◌}
use Rattle.std.specs.Prelude.{◌==◌, ◌&&◌, ◌||◌}
use Rattle.std.specs.List.{filter}
use Rattle.std.specs.List.Sorted.{IsPermutation}
use Rattle.std.proofs.lemmas.Bool.{eqb-true as eqb-eq}
use Rattle.std.proofs.lemmas.List.Sorted.{IsPermutation-refl, IsPermutation-trans, IsPermutation-cons, IsPermutation-middle}
use mathlib.Core.Bool.{true≢false}
use Rattle.zorder.specs.declared.points.Point.{Point}
use Rattle.zorder.specs.declared.points.Placed.{Placed}
use Rattle.zorder.specs.Key.{key_of}
use Rattle.zorder.proofs.Places.{point_of-key_of}
use Rattle.bucket_versions.specs.declared.row.Row.{Row}
use Rattle.bucket_versions.specs.Rows.{IsRows, has_row, without_row, same_row}
use Rattle.bucket_versions.proofs.RowOrder.{same_row-eq, IsRows-without_row}
use Rattle.index_layer.specs.Stands.{places_have, is_at_key}
use Rattle.index_layer.proofs.Puts.{where_is}
use Rattle.plain_list.specs.Places.{IsRising, AreAtPoints}
use Rattle.plain_list.specs.Places.{IsAbove as IsAboveId}
use Rattle.table_share.specs.Objects.{placed_of, objects_of}
use Rattle.table_share.proofs.FirstObjects.{has_row-less, IsAbove-same, without_row-absent, same_first, first_gone, first_there, has_first}

and-true : (b : Bool) → (b && true) ≡ b
and-true true = refl
and-true false = refl

and-false : (b : Bool) → (b && false) ≡ false
and-false true = refl
and-false false = refl

by_gone : (same_id same_key : Bool) (key : ℕ) (p : Point) (was : Option Point) (had : Bool) → same_key ≡ (key_of p == key) → had ≡ is_at_key key was
    → (same_id ≡ true → was ≡ Some p)
    → (had && not (same_key && same_id)) ≡ is_at_key key (cond same_id None was)
by_gone false true key p was had k h there = and-true had ∙ h
by_gone false false key p was had k h there = and-true had ∙ h
by_gone true true key p was had k h there = and-false had
by_gone true false key p was had k h there = and-true had ∙ h ∙ ap (is_at_key key) (there refl) ∙ sym k

abbrev row_of : Placed → Row
row_of m = record { key = key_of m.at; id = m.id }

rows_without_first : (m : Placed) (ms : List Placed) (rows : List Row) → IsAboveId m.id ms → ((q : Row) → has_row q rows ≡ places_have (m ∷ ms) q)
    → (q : Row) → has_row q (without_row (row_of m) rows) ≡ places_have ms q
rows_without_first m ms rows above before q =
    has_row-less (row_of m) rows q
    ∙ by_gone (m.id == q.id) (key_of m.at == q.key) q.key m.at (where_is (m ∷ ms) q.id) (has_row q rows) refl (before q)
    (λ e. sym (ap (where_is (m ∷ ms)) (eqb-eq m.id q.id e)) ∙ first_there m ms)
    ∙ ap (is_at_key q.key) (sym (first_gone m ms above q.id))

-- one more object, where the test lets it through
abbrev kept : Bool → Placed → List Placed → List Placed
kept b m ms = cond b (m ∷ ms) ms

kept-permutation : (b : Bool) (m : Placed) (ms ns : List Placed) → IsPermutation ms ns → IsPermutation (kept b m ms) (kept b m ns)
kept-permutation true m ms ns p = IsPermutation-cons m ms ns p
kept-permutation false m ms ns p = p

kept-swap : (a b : Bool) (m n : Placed) (ms : List Placed) → IsPermutation (kept a m (kept b n ms)) (kept b n (kept a m ms))
kept-swap true true m n ms = IsPermutation-middle (m ∷ []) n ms
kept-swap true false m n ms = IsPermutation-refl (m ∷ ms)
kept-swap false true m n ms = IsPermutation-refl (n ∷ ms)
kept-swap false false m n ms = IsPermutation-refl ms

module _ (test : Placed → Bool) where
  abbrev passed : List Row → List Placed
  passed rows = filter test (objects_of rows)

  -- a row and the others are all rows
  row_first : (r : Row) (rows : List Row) → IsRows rows → has_row r rows ≡ true → IsPermutation (passed (r ∷ without_row r rows)) (passed rows)
  row_first r [] rising has = absurd (true≢false (sym has))
  row_first r (s ∷ rows) rising has = by_test (same_row s r) refl has (row_first r rows rising.1)
    where
      by_test : (b : Bool) → same_row s r ≡ b → (b || has_row r rows) ≡ true → (has_row r rows ≡ true → IsPermutation (passed (r ∷ without_row r rows)) (passed rows))
          → IsPermutation (passed (r ∷ cond (not b) (s ∷ without_row r rows) (without_row r rows))) (passed (s ∷ rows))
      by_test true e has rest =
          let same : s ≡ r = same_row-eq s r e in
          let others : without_row r rows ≡ rows = without_row-absent r rows (IsAbove-same s r rows e rising.0) in
          subst (λ (l : List Row). IsPermutation (passed (r ∷ l)) (passed (s ∷ rows))) (sym others)
          (subst (λ (q : Row). IsPermutation (passed (q ∷ rows)) (passed (s ∷ rows))) same (IsPermutation-refl (passed (s ∷ rows))))
      by_test false e has rest =
          let others : List Placed = passed (without_row r rows) in
          let a : Bool = test (placed_of r) in
          let b : Bool = test (placed_of s) in
          IsPermutation-trans (kept a (placed_of r) (kept b (placed_of s) others)) (kept b (placed_of s) (kept a (placed_of r) others)) (kept b (placed_of s) (passed rows))
          (kept-swap a b (placed_of r) (placed_of s) others) (kept-permutation b (placed_of s) (kept a (placed_of r) others) (passed rows) (rest has))

  -- the objects that pass a test are those of their rows that do
  pub objects-permutation : (places : List Placed) (rows : List Row) → IsRising places → AreAtPoints places → IsRows rows → ((q : Row) → has_row q rows ≡ places_have places q)
      → IsPermutation (filter test places) (filter test (objects_of rows))
  objects-permutation [] [] rising points ordered has = IsPermutation-refl []
  objects-permutation [] (r ∷ rows) rising points ordered has = absurd (true≢false (sym (same_first r rows) ∙ has r))
  objects-permutation (m ∷ ms) rows rising points ordered has =
      let r : Row = row_of m in
      let there : has_row r rows ≡ true = has r ∙ has_first m ms in
      let others = objects-permutation ms (without_row r rows) rising.1 points.1 (IsRows-without_row r rows ordered) (rows_without_first m ms rows rising.0 has) in
      let back = point_of-key_of m.at points.0 in
      let same : placed_of r ≡ m = λ i. record { id = m.id; at = back i } in
      IsPermutation-trans (kept (test m) m (filter test ms)) (kept (test m) m (passed (without_row r rows))) (passed rows)
      (kept-permutation (test m) m (filter test ms) (passed (without_row r rows)) others)
      (subst (λ (n : Placed). IsPermutation (kept (test n) n (passed (without_row r rows))) (passed rows)) same (row_first r rows ordered there))
