-- Rising ids: what a search finds in them, and changes that leave them rising.
use Rattle.std.proofs.Common.{◌≡◌, ℕ, zero, suc, ◌<◌, ◌≤◌, length, Bool, true, false, not, List, [], ◌∷◌, get_or, refl, subst, arith, cond, ◌==◌, ◌||◌}
use Rattle.std.specs.Prelude.{nat_lt, nat_le}
use Rattle.std.specs.List.{insert, remove, AllByRecursion}
use Rattle.std.specs.List.Sorted.{IsNonDecreasing}
use Rattle.std.proofs.lemmas.Bool.Decides.{nat_tests}
use Rattle.std.proofs.lemmas.Grind.{common_steps}
use Rattle.fence_watch.specs.Guards.{AreRising}
use Rattle.fence_watch.specs.Watches.{with_id, without_id, has_id}

abbrev pub Above : ℕ → List ℕ → Type 0
Above a xs = AllByRecursion (λ y. a < y) xs

above_at : (a : ℕ) (xs : List ℕ) (i d : ℕ) → Above a xs → i < length xs → a < get_or xs i d
above_at a [] i d above lt = absurd (omega (arith, lt))
above_at a (x ∷ xs) zero d above lt = above.0
above_at a (x ∷ xs) (suc i) d above lt = above_at a xs i d above.1 (omega (arith, lt))

pub never_fall : (xs : List ℕ) → AreRising xs → IsNonDecreasing xs
never_fall [] rising i j d le lt = absurd (omega (arith, lt))
never_fall (x ∷ xs) rising zero zero d le lt = omega arith
never_fall (x ∷ xs) rising zero (suc j) d le lt = let above = above_at x xs j d rising.0 (omega (arith, lt)) in omega (arith, above)
never_fall (x ∷ xs) rising (suc i) zero d le lt = absurd (omega (arith, le))
never_fall (x ∷ xs) rising (suc i) (suc j) d le lt = never_fall xs rising.1 i j d (omega (arith, le)) (omega (arith, lt))

-- An id goes after those that are at most as great.
pub insert-with_id : (id : ℕ) (xs : List ℕ) (i : ℕ) → i ≤ length xs → ((k d : ℕ) → k < i → nat_le (get_or xs k d) id ≡ true) → ((k d : ℕ) → i ≤ k → k < length xs → nat_le (get_or xs k d) id ≡ false)
    → insert xs i id ≡ with_id id xs
insert-with_id id [] zero le less greater = refl
insert-with_id id [] (suc i) le less greater = absurd (omega (arith, le))
insert-with_id id (x ∷ xs) zero le less greater =
    let here : nat_le x id ≡ false = greater 0 x (omega arith) (omega arith) in
    grind (arith, nat_tests, common_steps)
insert-with_id id (x ∷ xs) (suc i) le less greater =
    let here : nat_le x id ≡ true = less 0 x (omega arith) in
    let rest : insert xs i id ≡ with_id id xs = insert-with_id id xs i (omega (arith, le)) (λ k d lt. less (suc k) d (omega (arith, lt))) (λ k d low lt. greater (suc k) d (omega (arith, low)) (omega (arith, lt))) in
    grind (arith, nat_tests, common_steps)

pub without-above : (id : ℕ) (xs : List ℕ) → Above id xs → without_id id xs ≡ xs
without-above id [] above = refl
without-above id (x ∷ xs) above =
    let rest : without_id id xs ≡ xs = without-above id xs above.1 in
    let here : id < x = above.0 in
    grind (arith, nat_tests, common_steps)

pub remove-without_id : (xs : List ℕ) (i id d : ℕ) → AreRising xs → i < length xs → get_or xs i d ≡ id → remove xs i ≡ without_id id xs
remove-without_id [] i id d rising lt same = absurd (omega (arith, lt))
remove-without_id (x ∷ xs) zero id d rising lt same =
    let rest : without_id id xs ≡ xs = without-above id xs (subst (λ n. Above n xs) same rising.0) in
    grind (arith, nat_tests, common_steps)
remove-without_id (x ∷ xs) (suc i) id d rising lt same =
    let rest : remove xs i ≡ without_id id xs = remove-without_id xs i id d rising.1 (omega (arith, lt)) same in
    let above : x < get_or xs i d = above_at x xs i d rising.0 (omega (arith, lt)) in
    grind (arith, nat_tests, common_steps)

-- An id between two neighbours, or beyond an end, isn't there.
pub without-parted : (id : ℕ) (xs : List ℕ) (i : ℕ) → i ≤ length xs → ((k : ℕ) → k < i → get_or xs k 0 < id) → ((k : ℕ) → i ≤ k → k < length xs → id < get_or xs k 0) → without_id id xs ≡ xs
without-parted id [] i le less greater = refl
without-parted id (x ∷ xs) zero le less greater =
    let here : id < x = greater 0 (omega arith) (omega arith) in
    let rest : without_id id xs ≡ xs = without-parted id xs 0 (omega arith) (λ k lt. absurd (omega (arith, lt))) (λ k low lt. greater (suc k) (omega arith) (omega (arith, lt))) in
    grind (arith, nat_tests, common_steps)
without-parted id (x ∷ xs) (suc i) le less greater =
    let here : x < id = less 0 (omega arith) in
    let rest : without_id id xs ≡ xs = without-parted id xs i (omega (arith, le)) (λ k lt. less (suc k) (omega (arith, lt))) (λ k low lt. greater (suc k) (omega (arith, low)) (omega (arith, lt))) in
    grind (arith, nat_tests, common_steps)

-- Changes keep what is above.
Above-with_id : (a id : ℕ) (xs : List ℕ) → a < id → Above a xs → Above a (with_id id xs)
Above-with_id a id [] lt above = (lt, tt)
Above-with_id a id (x ∷ xs) lt above = by_test (nat_lt id x) (Above-with_id a id xs lt above.1)
  where
    by_test : (b : Bool) → Above a (with_id id xs) → Above a (cond b (id ∷ x ∷ xs) (x ∷ with_id id xs))
    by_test true rest = (lt, above)
    by_test false rest = (above.0, rest)

Above-lower : (a b : ℕ) (xs : List ℕ) → a < b → Above b xs → Above a xs
Above-lower a b [] lt above = tt
Above-lower a b (x ∷ xs) lt above = (omega (arith, lt, above.0), Above-lower a b xs lt above.1)

Above-without_id : (a id : ℕ) (xs : List ℕ) → Above a xs → Above a (without_id id xs)
Above-without_id a id [] above = tt
Above-without_id a id (x ∷ xs) above = by_test (not (x == id)) (Above-without_id a id xs above.1)
  where
    by_test : (b : Bool) → Above a (without_id id xs) → Above a (cond b (x ∷ without_id id xs) (without_id id xs))
    by_test true rest = (above.0, rest)
    by_test false rest = rest

-- An id that isn't there goes between its neighbours.
pub rising-with_id : (id : ℕ) (xs : List ℕ) → has_id id xs ≡ false → AreRising xs → AreRising (with_id id xs)
rising-with_id id [] none rising = (tt, tt)
rising-with_id id (x ∷ xs) none rising = by_test (nat_lt id x) refl (x == id) refl none (λ later. rising-with_id id xs later rising.1)
  where
    below : nat_lt id x ≡ true → id < x
    below e = grind (arith, nat_tests)

    behind : nat_lt id x ≡ false → (x == id) ≡ false → x < id
    behind e f = grind (arith, nat_tests)

    by_test : (b : Bool) → nat_lt id x ≡ b → (same : Bool) → (x == id) ≡ same → (same || has_id id xs) ≡ false
        → (has_id id xs ≡ false → AreRising (with_id id xs)) → AreRising (cond b (id ∷ x ∷ xs) (x ∷ with_id id xs))
    by_test true e same f none rest = ((below e, Above-lower id x xs (below e) rising.0), rising)
    by_test false e true f none rest = absurd (cc none)
    by_test false e false f none rest = (Above-with_id x id xs (behind e f) rising.0, rest none)

pub rising-without_id : (id : ℕ) (xs : List ℕ) → AreRising xs → AreRising (without_id id xs)
rising-without_id id [] rising = tt
rising-without_id id (x ∷ xs) rising = by_test (not (x == id)) (rising-without_id id xs rising.1)
  where
    by_test : (b : Bool) → AreRising (without_id id xs) → AreRising (cond b (x ∷ without_id id xs) (without_id id xs))
    by_test true rest = (Above-without_id x id xs rising.0, rest)
    by_test false rest = rest
