-- How many rows a leaf has when one came or went.
use Rattle.std.proofs.Common.{◌≡◌, ◌+◌, ◌∙◌, Bool, true, false, cond, not, List, [], ◌∷◌, length, refl, sym, ap, subst, arith, Result, Ok, Err, OnOk, OnErr}
use Rattle.std.specs.Prelude.{◌||◌}
use mathlib.Core.Bool.{true≢false}
use Rattle.bucket_versions.specs.declared.row.Row.{Row}
use Rattle.bucket_versions.specs.declared.row.RowChange.{RowChange}
use Rattle.bucket_versions.specs.Rows.{Rows, IsRows, IsAbove, is_below, has_row, same_row, with_row, without_row, after_put, after_gone}
use Rattle.bucket_versions.proofs.RowOrder.{same_row-eq}
use Rattle.bucket_versions.proofs.RowPlaces.{none_above, without_row-none}
use Rattle.bit_trie.specs.Ways.{once_if}

length-with : (r : Row) (rows : List Row) → length (with_row r rows) ≡ length rows + 1
length-with r [] = refl
length-with r (s ∷ rows) = by_test (is_below r s) (length-with r rows)
  where
    by_test : (b : Bool) → length (with_row r rows) ≡ length rows + 1 → length (cond b (r ∷ s ∷ rows) (s ∷ with_row r rows)) ≡ length (s ∷ rows) + 1
    by_test true rest = omega arith
    by_test false rest = omega (arith, rest)

pub more-rows : {A E : Type 0} (r : Result A E) (c : RowChange) (old new : Rows) → OnOk r (new ≡ after_put c old) → OnErr r (new ≡ old) → length new.rows ≡ length old.rows + once_if r
more-rows (Ok x) c old new is kept = ap (λ (b : Rows). length b.rows) is ∙ length-with c.row old.rows
more-rows (Err x) c old new is kept = omega (arith, ap (λ (b : Rows). length b.rows) kept)

-- of rows that rise one goes, not more
length-without : (r : Row) (rows : List Row) → IsRows rows → has_row r rows ≡ true → length (without_row r rows) + 1 ≡ length rows
length-without r [] rising has = absurd (true≢false (sym has))
length-without r (s ∷ rows) rising has = by_test (same_row s r) refl has (length-without r rows rising.1)
  where
    by_test : (b : Bool) → same_row s r ≡ b → (b || has_row r rows) ≡ true → (has_row r rows ≡ true → length (without_row r rows) + 1 ≡ length rows)
        → length (cond (not b) (s ∷ without_row r rows) (without_row r rows)) + 1 ≡ length (s ∷ rows)
    by_test true e is later =
        let above : IsAbove r rows = subst (λ (q : Row). IsAbove q rows) (same_row-eq s r e) rising.0 in
        omega (arith, ap length (without_row-none r rows (none_above r rows above)))
    by_test false e is later = omega (arith, later is)

pub less-rows : {A E : Type 0} (r : Result A E) (c : RowChange) (old new : Rows) → IsRows old.rows → has_row c.row old.rows ≡ true → OnOk r (new ≡ after_gone c old) → OnErr r (new ≡ old)
    → length new.rows + once_if r ≡ length old.rows
less-rows (Ok x) c old new rising has is kept = ap (λ (b : Rows). length b.rows + 1) is ∙ length-without c.row old.rows rising has
less-rows (Err x) c old new rising has is kept = omega (arith, ap (λ (b : Rows). length b.rows) kept)

pub same-rows : {A E : Type 0} (r : Result A E) (from to : RowChange) (old new : Rows) → IsRows old.rows → has_row from.row old.rows ≡ true → OnOk r (new ≡ after_put to (after_gone from old)) → OnErr r (new ≡ old)
    → length new.rows ≡ length old.rows
same-rows (Ok x) from to old new rising has is kept = ap (λ (b : Rows). length b.rows) is ∙ length-with to.row (without_row from.row old.rows) ∙ length-without from.row old.rows rising has
same-rows (Err x) from to old new rising has is kept = ap (λ (b : Rows). length b.rows) kept
