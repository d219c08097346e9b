-- The place of a row in a list in order.
use Rattle.std.proofs.Common.{◌≡◌, ℕ, zero, suc, ◌<◌, ◌≤◌, Bool, true, false, not, ◌||◌, List, [], ◌∷◌, length, get_or, eqb, subst, refl, sym, ◌∙◌, ap, arith, cond}
use Rattle.std.specs.List.{insert, remove, AllWithin}
use Rattle.std.specs.List.Sorted.{IsPartitionedBy}
use Rattle.std.proofs.lemmas.Bool.{eqb-true, eqb-false}
use mathlib.Core.Bool.{true≢false}
use Rattle.bucket_versions.specs.declared.row.Row.{Row}
use Rattle.bucket_versions.specs.Rows.{is_below, same_row, IsAbove, IsRows, has_row, with_row, without_row, row_place}
use Rattle.bucket_versions.proofs.RowOrder.{same_row-refl, same_row-eq, is_below-trans, is_below-not_same, is_below-not_same_back, is_below-either, not_first, IsAbove-lower, IsRows-at, IsRows-with_row, IsRows-without_row}

-- what is below a row are the first of the rows in order
pub below_first : (r : Row) (rows : List Row) → IsRows rows → IsPartitionedBy (λ s. is_below s r) rows
below_first r rows rising i j d le lt below = by_place (eqb i j) refl
  where
    by_place : (b : Bool) → eqb i j ≡ b → is_below (get_or rows i d) r ≡ true
    by_place true e = ap (λ k. is_below (get_or rows k d) r) (eqb-true i j e) ∙ below
    by_place false e =
        let other : i ≡ j → ⊥ = eqb-false i j e in
        is_below-trans (get_or rows i d) (get_or rows j d) r (IsRows-at rows i j d rising (omega (arith, other)) lt) below

-- the place is where the rows below end
pub row_place-point : (r : Row) (rows : List Row) (i : ℕ) → AllWithin (λ s. is_below s r ≡ true) rows 0 i → AllWithin (λ s. is_below s r ≡ false) rows i (length rows) → i ≤ length rows → row_place r rows ≡ i
row_place-point r [] zero front back le = refl
row_place-point r [] (suc i) front back le = absurd (omega arith)
row_place-point r (s ∷ rows) zero front back le = λ j. cond (back 0 s (omega arith) (omega arith) j) (suc (row_place r rows)) 0
row_place-point r (s ∷ rows) (suc i) front back le =
    (λ j. cond (front 0 s (omega arith) (omega arith) j) (suc (row_place r rows)) 0)
    ∙ ap suc (row_place-point r rows i (λ k d from to. front (suc k) d (omega arith) (omega arith)) (λ k d from to. back (suc k) d (omega arith) (omega arith)) (omega arith))

-- a put inserts the row at its place
put_step : (a b : Bool) (r s : Row) (rows more : List Row) (i : ℕ) → b ≡ not a → insert rows i r ≡ more → insert (s ∷ rows) (cond a (suc i) 0) r ≡ cond b (r ∷ s ∷ rows) (s ∷ more)
put_step false b r s rows more i is e = sym (λ j. cond (is j) (r ∷ s ∷ rows) (s ∷ more))
put_step true b r s rows more i is e = ap (λ (l : List Row). s ∷ l) e ∙ sym (λ j. cond (is j) (r ∷ s ∷ rows) (s ∷ more))

pub insert-row_place : (r : Row) (rows : List Row) → has_row r rows ≡ false → insert rows (row_place r rows) r ≡ with_row r rows
insert-row_place r [] none = refl
insert-row_place r (s ∷ rows) none =
    let other = not_first r s rows none in
    put_step (is_below s r) (is_below r s) r s rows (with_row r rows) (row_place r rows) (is_below-either s r other.0) (insert-row_place r rows other.1)

-- no row is one that all are above
pub none_above : (r : Row) (rows : List Row) → IsAbove r rows → has_row r rows ≡ false
none_above r [] above = refl
none_above r (s ∷ rows) above = (λ i. is_below-not_same_back r s above.0 i || has_row r rows) ∙ none_above r rows above.1

-- and a removal of one leaves all
pub without_row-none : (r : Row) (rows : List Row) → has_row r rows ≡ false → without_row r rows ≡ rows
without_row-none r [] none = refl
without_row-none r (s ∷ rows) none =
    let other = not_first r s rows none in
    (λ i. cond (not (other.0 i)) (s ∷ without_row r rows) (without_row r rows)) ∙ ap (λ (l : List Row). s ∷ l) (without_row-none r rows other.1)

-- whether the row at the place of a row is that row
abbrev pub IsThere : Row → List Row → ℕ → Type 0
IsThere r rows i = (i < length rows) × ((d : Row) → get_or rows i d ≡ r)

-- a row of the list stands at its place, and a removal takes out the element there
by_tests : (r s : Row) (rows : List Row) (rising : IsRows (s ∷ rows)) (a b : Bool) → is_below s r ≡ a → same_row s r ≡ b → (b || has_row r rows) ≡ true
    → (has_row r rows ≡ true → IsThere r rows (row_place r rows) × (remove rows (row_place r rows) ≡ without_row r rows))
    → IsThere r (s ∷ rows) (cond a (suc (row_place r rows)) 0) × (remove (s ∷ rows) (cond a (suc (row_place r rows)) 0) ≡ cond (not b) (s ∷ without_row r rows) (without_row r rows))
by_tests r s rows rising true true below same has later = absurd (cc (is_below-not_same s r below))
by_tests r s rows rising true false below same has later =
    let rest = later has in
    ((omega (arith, rest.0.0), λ d. rest.0.1 d), ap (λ (l : List Row). s ∷ l) rest.1)
by_tests r s rows rising false true below same has later =
    let one : s ≡ r = same_row-eq s r same in
    let P : Row → Type 0 = λ q. IsAbove q rows in
    let above : IsAbove r rows = subst P one rising.0 in
    ((omega arith, λ d. one), sym (without_row-none r rows (none_above r rows above)))
by_tests r s rows rising false false below same has later =
    let back : is_below r s ≡ true = is_below-either s r same ∙ ap not below in
    let none : has_row r rows ≡ false = none_above r rows (IsAbove-lower r s rows back rising.0) in
    absurd (cc (none, has))

pub there : (r : Row) (rows : List Row) → IsRows rows → has_row r rows ≡ true → IsThere r rows (row_place r rows) × (remove rows (row_place r rows) ≡ without_row r rows)
there r [] rising has = absurd (cc has)
there r (s ∷ rows) rising has = by_tests r s rows rising (is_below s r) (same_row s r) refl refl has (there r rows rising.1)

-- a row that isn't at its place isn't in the list
pub nowhere : (r : Row) (rows : List Row) (d : Row) → IsRows rows → (row_place r rows < length rows → same_row (get_or rows (row_place r rows) d) r ≡ false) → has_row r rows ≡ false
nowhere r rows d rising differs = by_test (has_row r rows) refl
  where
    by_test : (b : Bool) → has_row r rows ≡ b → has_row r rows ≡ false
    by_test true e =
        let at = (there r rows rising e).0 in
        absurd (true≢false (sym (same_row-refl r) ∙ sym (ap (λ q. same_row q r) (at.1 d)) ∙ differs at.0))
    by_test false e = e

-- a put at the place of a row that isn't there, and a removal at the place of one that is
pub put_at_place : (old now : List Row) (r : Row) (i : ℕ) → IsRows old → has_row r old ≡ false → i ≡ row_place r old → now ≡ insert old i r → (now ≡ with_row r old) × IsRows now
put_at_place old now r i rising none at is =
    let same : now ≡ with_row r old = is ∙ ap (λ k. insert old k r) at ∙ insert-row_place r old none in
    (same, subst IsRows (sym same) (IsRows-with_row r old none rising))

pub gone_at_place : (old now : List Row) (r : Row) (i : ℕ) → IsRows old → has_row r old ≡ true → i ≡ row_place r old → now ≡ remove old i → (now ≡ without_row r old) × IsRows now
gone_at_place old now r i rising has at is =
    let same : now ≡ without_row r old = is ∙ ap (λ k. remove old k) at ∙ (there r old rising has).1 in
    (same, subst IsRows (sym same) (IsRows-without_row r old rising))
