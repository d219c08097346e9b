-- A row that comes in the stead of another one, at a place of its own.
use Rattle.std.proofs.Common.{◌≡◌, ℕ, suc, ◌-◌, ◌<◌, ◌≤◌, Bool, true, false, not, ◌||◌, ◌&&◌, List, [], ◌∷◌, ltb, refl, sym, ◌∙◌, ap, arith, cond, subst}
use Rattle.std.specs.List.{insert, remove}
use Rattle.std.proofs.lemmas.Bool.Decides.{nat_tests}
use mathlib.Core.Bool.{true≢false}
use Rattle.bucket_versions.specs.declared.row.Row.{Row}
use Rattle.bucket_versions.specs.Rows.{is_below, same_row, IsAbove, IsRows, has_row, without_row, row_place}
use Rattle.bucket_versions.specs.Delta.{turn}
use Rattle.bucket_versions.proofs.RowOrder.{same_row-eq, is_below-trans, is_below-not_same, is_below-either, IsAbove-lower, IsRows-without_row}
use Rattle.bucket_versions.proofs.RowPlaces.{none_above, without_row-none, there}
use Rattle.bucket_versions.proofs.RowSets.{has_row-without_row, turn-present, put_turns}

-- none of the rows above one is below a row that this one isn't below
none_below : (to s : Row) (rows : List Row) → IsAbove s rows → is_below s to ≡ false → row_place to rows ≡ 0
none_below to s [] above later = refl
none_below to s (x ∷ rows) above later = by_test (is_below x to) refl
  where
    by_test : (b : Bool) → is_below x to ≡ b → cond b (suc (row_place to rows)) 0 ≡ 0
    by_test true e = absurd (true≢false (sym (is_below-trans s x to above.0 e) ∙ later))
    by_test false e = refl

-- a place once the row at another one is gone
abbrev IsLeft : ℕ → ℕ → ℕ → Type 0
IsLeft gone old now = (gone < old → suc now ≡ old) × (old ≤ gone → now ≡ old)

same_left : (p q i j : ℕ) → IsLeft p q i → IsLeft p q j → i ≡ j
same_left p q i j a b = by_test (ltb p q) refl
  where
    by_test : (t : Bool) → ltb p q ≡ t → i ≡ j
    by_test true e =
        let lt : p < q = grind (arith, nat_tests) in
        omega (arith, a.0 lt, b.0 lt)
    by_test false e =
        let le : q ≤ p = grind (arith, nat_tests) in
        a.1 le ∙ sym (b.1 le)

by_tests : (from to s : Row) (rows : List Row) (rising : IsRows (s ∷ rows)) (a b t : Bool) → is_below s from ≡ a → same_row s from ≡ b → is_below s to ≡ t → (b || has_row from rows) ≡ true
    → (has_row from rows ≡ true → IsLeft (row_place from rows) (row_place to rows) (row_place to (without_row from rows)))
    → IsLeft (cond a (suc (row_place from rows)) 0) (cond t (suc (row_place to rows)) 0) (row_place to (cond (not b) (s ∷ without_row from rows) (without_row from rows)))
by_tests from to s rows rising true true t below same later has rest = absurd (cc (is_below-not_same s from below))
by_tests from to s rows rising true false true below same later has rest =
    let left = rest has in
    let here : row_place to (s ∷ without_row from rows) ≡ suc (row_place to (without_row from rows)) = λ i. cond (later i) (suc (row_place to (without_row from rows))) 0 in
    (λ lt. ap suc (here ∙ left.0 (omega (arith, lt))), λ le. here ∙ ap suc (left.1 (omega (arith, le))))
by_tests from to s rows rising true false false below same later has rest = (λ lt. absurd (omega (arith, lt)), λ le. λ i. cond (later i) (suc (row_place to (without_row from rows))) 0)
by_tests from to s rows rising false true t below same later has rest =
    let P : Row → Type 0 = λ q. IsAbove q rows in
    let above : IsAbove from rows = subst P (same_row-eq s from same) rising.0 in
    let all : row_place to (without_row from rows) ≡ row_place to rows = ap (row_place to) (without_row-none from rows (none_above from rows above)) in
    first t later all
  where
    first : (u : Bool) → is_below s to ≡ u → row_place to (without_row from rows) ≡ row_place to rows → IsLeft 0 (cond u (suc (row_place to rows)) 0) (row_place to (without_row from rows))
    first true e all = (λ lt. ap suc all, λ le. absurd (omega (arith, le)))
    first false e all = (λ lt. absurd (omega (arith, lt)), λ le. all ∙ none_below to s rows rising.0 e)
by_tests from to s rows rising false false t below same later has rest =
    let back : is_below from s ≡ true = is_below-either s from same ∙ ap not below in
    let none : has_row from rows ≡ false = none_above from rows (IsAbove-lower from s rows back rising.0) in
    absurd (cc (none, has))

place-left : (from to : Row) (rows : List Row) → IsRows rows → has_row from rows ≡ true → IsLeft (row_place from rows) (row_place to rows) (row_place to (without_row from rows))
place-left from to [] rising has = absurd (cc has)
place-left from to (s ∷ rows) rising has = by_tests from to s rows rising (is_below s from) (same_row s from) (is_below s to) refl refl refl has (place-left from to rows rising.1)

came_turns : (old now : List Row) (from to : Row) (p i : ℕ) → IsRows old → has_row from old ≡ true → has_row to old ≡ false → p ≡ row_place from old → IsLeft p (row_place to old) i → now ≡ insert (remove old p) i to
    → (now ≡ turn to (turn from old)) × IsRows now
came_turns old now from to p i rising has none at left is =
    let gone : remove old p ≡ without_row from old = ap (remove old) at ∙ (there from old rising has).1 in
    let absent : has_row to (without_row from old) ≡ false = has_row-without_row from to old ∙ (λ j. none j && not (same_row to from)) in
    let place = place-left from to old rising has in
    let P : ℕ → Type 0 = λ k. IsLeft k (row_place to old) (row_place to (without_row from old)) in
    let here : i ≡ row_place to (without_row from old) = same_left p (row_place to old) i (row_place to (without_row from old)) left (subst P (sym at) place) in
    let made = put_turns (without_row from old) now to i (IsRows-without_row from old rising) absent here (is ∙ ap (λ (rows : List Row). insert rows i to) gone) in
    (made.0 ∙ ap (turn to) (sym (turn-present from old has)), made.1)

-- a row that comes to its place in the stead of another one
pub moved_turns : (old now : List Row) (from to : Row) (p q : ℕ) → IsRows old → has_row from old ≡ true → has_row to old ≡ false → p ≡ row_place from old → q ≡ row_place to old
    → (p < q → now ≡ insert (remove old p) (q - 1) to) → (q ≤ p → now ≡ insert (remove old p) q to) → (now ≡ turn to (turn from old)) × IsRows now
moved_turns old now from to p q rising has none at to_at later sooner = by_test (ltb p q) refl
  where
    by_test : (t : Bool) → ltb p q ≡ t → (now ≡ turn to (turn from old)) × IsRows now
    by_test true e =
        let lt : p < q = grind (arith, nat_tests) in
        came_turns old now from to p (q - 1) rising has none at (λ _. omega (arith, lt, to_at), λ le. absurd (omega (arith, lt, le, to_at))) (later lt)
    by_test false e =
        let le : q ≤ p = grind (arith, nat_tests) in
        came_turns old now from to p q rising has none at (λ lt. absurd (omega (arith, lt, le, to_at)), λ _. to_at) (sooner le)
