-- The rows of a base and a delta, up to the first row of the delta.
use Rattle.std.proofs.Common.{◌≡◌, ℕ, zero, suc, ◌+◌, Bool, true, false, not, cond, List, [], ◌∷◌, ◌++◌, take, drop, refl, sym, ap, subst, ◌∙◌, arith, append_assoc}
use Rattle.std.specs.Prelude.{◌||◌}
use mathlib.Core.Bool.{true≢false}
use Rattle.bucket_versions.specs.declared.row.Row.{Row}
use Rattle.bucket_versions.specs.Rows.{IsRows, is_below, same_row, has_row, row_place}
use Rattle.bucket_versions.specs.Delta.{difference}
use Rattle.bucket_versions.proofs.RowOrder.{same_row-eq, same_row-refl, is_below-not_back, is_below-not_same, is_below-not_same_back, is_below-either, IsAbove-lower, not_first}
use Rattle.bucket_versions.proofs.RowPlaces.{none_above}

-- a row that is there is left out, between those before it and those behind it
pub run-there : (d : Row) (rest delta : List Row) → IsRows rest → has_row d rest ≡ true
    → difference rest (d ∷ delta) ≡ take (row_place d rest) rest ++ difference (drop (suc (row_place d rest)) rest) delta
run-there d [] delta rows there = absurd (true≢false (sym there))
run-there d (r ∷ rest) delta rows there = by_test (run-there d rest delta rows.1) (same_row d r) (is_below d r) (is_below r d) refl refl refl
  where
    by_test : (has_row d rest ≡ true → difference rest (d ∷ delta) ≡ take (row_place d rest) rest ++ difference (drop (suc (row_place d rest)) rest) delta)
        → (b c e : Bool) → same_row d r ≡ b → is_below d r ≡ c → is_below r d ≡ e
        → cond b (difference rest delta) (cond c (d ∷ difference (r ∷ rest) delta) (r ∷ difference rest (d ∷ delta)))
        ≡ take (cond e (suc (row_place d rest)) 0) (r ∷ rest) ++ difference (drop (suc (cond e (suc (row_place d rest)) 0)) (r ∷ rest)) delta
    by_test further true c true same below above = absurd (true≢false (sym same ∙ is_below-not_same_back r d above))
    by_test further true c false same below above = refl
    by_test further false true e same below above = absurd (true≢false (sym there ∙ none_above d (r ∷ rest) (below, IsAbove-lower d r rest below rows.0)))
    by_test further false false true same below above =
        ap (λ (l : List Row). r ∷ l) (further (ap (λ (b : Bool). b || has_row d rest) (sym (is_below-not_same r d above)) ∙ there))
    by_test further false false false same below above = absurd (true≢false (sym (is_below-either d r same ∙ ap not below) ∙ above))

-- and one that isn't comes between them
pub run-absent : (d : Row) (rest delta : List Row) → has_row d rest ≡ false
    → difference rest (d ∷ delta) ≡ take (row_place d rest) rest ++ d ∷ difference (drop (row_place d rest) rest) delta
run-absent d [] delta absent = refl
run-absent d (r ∷ rest) delta absent = by_test (run-absent d rest delta (not_first d r rest absent).1) (same_row d r) (is_below d r) (is_below r d) refl refl refl
  where
    by_test : difference rest (d ∷ delta) ≡ take (row_place d rest) rest ++ d ∷ difference (drop (row_place d rest) rest) delta
        → (b c e : Bool) → same_row d r ≡ b → is_below d r ≡ c → is_below r d ≡ e
        → cond b (difference rest delta) (cond c (d ∷ difference (r ∷ rest) delta) (r ∷ difference rest (d ∷ delta)))
        ≡ take (cond e (suc (row_place d rest)) 0) (r ∷ rest) ++ d ∷ difference (drop (cond e (suc (row_place d rest)) 0) (r ∷ rest)) delta
    by_test further true c e same below above =
        absurd (true≢false (sym (subst (λ (s : Row). same_row r s ≡ true) (sym (same_row-eq d r same)) (same_row-refl r)) ∙ (not_first d r rest absent).0))
    by_test further false true true same below above = absurd (true≢false (sym above ∙ is_below-not_back d r below))
    by_test further false true false same below above = refl
    by_test further false false true same below above = ap (λ (l : List Row). r ∷ l) further
    by_test further false false false same below above = absurd (true≢false (sym (is_below-either d r same ∙ ap not below) ∙ above))

-- rows behind some of them are in order
pub IsRows-drop : (k : ℕ) (rows : List Row) → IsRows rows → IsRows (drop k rows)
IsRows-drop zero rows is = is
IsRows-drop (suc k) [] is = is
IsRows-drop (suc k) (r ∷ rows) is = IsRows-drop k rows is.1

-- rows that were copied so far, with those up to a turned row that is there, or isn't
module _ (d : Row) (all new rest left delta : List Row) (place : ℕ) (is : place ≡ row_place d rest) where
  pub ran-there : IsRows rest → has_row d rest ≡ true → new ≡ all ++ take place rest → left ≡ drop (place + 1) rest
      → new ++ difference left delta ≡ all ++ difference rest (d ∷ delta)
  ran-there rows there made cut =
      let next : row_place d rest + 1 ≡ suc (row_place d rest) = omega arith in
      (λ i. made i ++ difference (cut i) delta) ∙ append_assoc all (take place rest) (difference (drop (place + 1) rest) delta)
      ∙ ap (λ (l : List Row). all ++ l)
      ((λ i. take (is i) rest ++ difference (drop (is i + 1) rest) delta)
      ∙ ap (λ (n : ℕ). take (row_place d rest) rest ++ difference (drop n rest) delta) next
      ∙ sym (run-there d rest delta rows there))

  pub ran-absent : has_row d rest ≡ false → new ≡ (all ++ take place rest) ++ d ∷ [] → left ≡ drop place rest
      → new ++ difference left delta ≡ all ++ difference rest (d ∷ delta)
  ran-absent absent made cut =
      (λ i. made i ++ difference (cut i) delta) ∙ append_assoc (all ++ take place rest) (d ∷ []) (difference (drop place rest) delta)
      ∙ append_assoc all (take place rest) (d ∷ difference (drop place rest) delta)
      ∙ ap (λ (l : List Row). all ++ l)
      ((λ i. take (is i) rest ++ d ∷ difference (drop (is i) rest) delta) ∙ sym (run-absent d rest delta absent))
