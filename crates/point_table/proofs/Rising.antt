-- Names in the order of their first keys, and where a key stands among them.
use Rattle.std.proofs.Common.{◌≡◌, ℕ, zero, suc, ◌<◌, ◌≤◌, ltb, Bool, true, false, cond, List, [], ◌∷◌, ◌++◌, length, get_or, refl, ap, ◌∙◌, arith}
use Rattle.std.specs.Prelude.{nat_lt, ◌==◌}
use Rattle.std.specs.List.{AllWithin}
use Rattle.std.specs.List.Sorted.{IsNonDecreasingBy}
use Rattle.std.proofs.lemmas.Bool.Decides.{nat_tests}
use Rattle.zorder.specs.Name.{first_key}
use Rattle.point_table.specs.declared.crowded.Mark.{Mark}
use Rattle.point_table.specs.Crowded.{AreFrom, AreRising, marked, unmarked, remarked, remarked_each, key_place}

pub AreFrom-lower : (j k : ℕ) (names : List (List Bool)) → j ≤ k → AreFrom k names → AreFrom j names
AreFrom-lower j k [] le from = tt
AreFrom-lower j k (n ∷ names) le from = (omega (arith, le, from.0), AreFrom-lower j k names le from.1)

AreFrom-at : (k : ℕ) (names : List (List Bool)) (i : ℕ) (d : List Bool) → AreFrom k names → i < length names → k ≤ first_key (get_or names i d)
AreFrom-at k [] i d from lt = absurd (omega arith)
AreFrom-at k (n ∷ names) zero d from lt = from.0
AreFrom-at k (n ∷ names) (suc i) d from lt = AreFrom-at k names i d from.1 (omega arith)

pub keys_rise : (names : List (List Bool)) → AreRising names → IsNonDecreasingBy first_key names
keys_rise [] rising i j d le lt = absurd (omega arith)
keys_rise (n ∷ names) rising zero zero d le lt = omega arith
keys_rise (n ∷ names) rising zero (suc j) d le lt = omega (arith, AreFrom-at (suc (first_key n)) names j d rising.0 (omega arith))
keys_rise (n ∷ names) rising (suc i) zero d le lt = absurd (omega arith)
keys_rise (n ∷ names) rising (suc i) (suc j) d le lt = keys_rise names rising.1 i j d (omega arith) (omega arith)

-- the place is where the lesser keys end
pub key_place-point : (name : List Bool) (names : List (List Bool)) (i : ℕ) → AllWithin (λ (n : List Bool). ltb (first_key n) (first_key name) ≡ true) names 0 i
    → AllWithin (λ (n : List Bool). ltb (first_key n) (first_key name) ≡ false) names i (length names) → i ≤ length names → key_place name names ≡ i
key_place-point name [] zero front back le = refl
key_place-point name [] (suc i) front back le = absurd (omega arith)
key_place-point name (n ∷ names) zero front back le = λ j. cond (back 0 n (omega arith) (omega arith) j) (suc (key_place name names)) 0
key_place-point name (n ∷ names) (suc i) front back le =
    (λ j. cond (front 0 n (omega arith) (omega arith) j) (suc (key_place name names)) 0)
    ∙ ap suc (key_place-point name names i (λ k d from to. front (suc k) d (omega arith) (omega arith)) (λ k d from to. back (suc k) d (omega arith) (omega arith)) (omega arith))

-- what the three ways in which two keys lie say
lt-true : (m n : ℕ) → nat_lt m n ≡ true → m < n
lt-true m n e = grind (arith, nat_tests)

same-true : (m n : ℕ) → (m == n) ≡ true → m ≡ n
same-true m n e = grind (arith, nat_tests)

past : (m n : ℕ) → nat_lt m n ≡ false → (m == n) ≡ false → n < m
past m n less same = grind (arith, nat_tests)

from_cond : (k : ℕ) (a b : Bool) (name n : List Bool) (names more : List (List Bool)) → k ≤ first_key name → AreFrom k (n ∷ names) → AreFrom k more
    → AreFrom k (cond a (name ∷ n ∷ names) (cond b (name ∷ names) (n ∷ more)))
from_cond k true b name n names more le from rest = (le, from)
from_cond k false true name n names more le from rest = (le, from.1)
from_cond k false false name n names more le from rest = (from.0, rest)

AreFrom-marked : (k : ℕ) (name : List Bool) (names : List (List Bool)) → k ≤ first_key name → AreFrom k names → AreFrom k (marked name names)
AreFrom-marked k name [] le from = (le, tt)
AreFrom-marked k name (n ∷ names) le from =
    from_cond k (nat_lt (first_key name) (first_key n)) (first_key name == first_key n) name n names (marked name names) le from (AreFrom-marked k name names le from.1)

rising_cond : (a b : Bool) (name n : List Bool) (names : List (List Bool)) → nat_lt (first_key name) (first_key n) ≡ a → (first_key name == first_key n) ≡ b → AreRising (n ∷ names) → AreRising (marked name names)
    → AreRising (cond a (name ∷ n ∷ names) (cond b (name ∷ names) (n ∷ marked name names)))
rising_cond true b name n names less same rising rest =
    let lt : first_key name < first_key n = lt-true (first_key name) (first_key n) less in
    ((lt, AreFrom-lower (suc (first_key name)) (suc (first_key n)) names (omega (arith, lt)) rising.0), rising)
rising_cond false true name n names less same rising rest =
    let e : first_key name ≡ first_key n = same-true (first_key name) (first_key n) same in
    (AreFrom-lower (suc (first_key name)) (suc (first_key n)) names (omega (arith, e)) rising.0, rising.1)
rising_cond false false name n names less same rising rest =
    (AreFrom-marked (suc (first_key n)) name names (past (first_key name) (first_key n) less same) rising.0, rest)

pub AreRising-marked : (name : List Bool) (names : List (List Bool)) → AreRising names → AreRising (marked name names)
AreRising-marked name [] rising = (tt, tt)
AreRising-marked name (n ∷ names) rising =
    rising_cond (nat_lt (first_key name) (first_key n)) (first_key name == first_key n) name n names refl refl rising (AreRising-marked name names rising.1)

left_from : (k : ℕ) (a b : Bool) (n : List Bool) (names more : List (List Bool)) → AreFrom k (n ∷ names) → AreFrom k more → AreFrom k (cond a (n ∷ names) (cond b names (n ∷ more)))
left_from k true b n names more from rest = from
left_from k false true n names more from rest = from.1
left_from k false false n names more from rest = (from.0, rest)

AreFrom-unmarked : (k : ℕ) (name : List Bool) (names : List (List Bool)) → AreFrom k names → AreFrom k (unmarked name names)
AreFrom-unmarked k name [] from = tt
AreFrom-unmarked k name (n ∷ names) from =
    left_from k (nat_lt (first_key name) (first_key n)) (first_key name == first_key n) n names (unmarked name names) from (AreFrom-unmarked k name names from.1)

left_rising : (a b : Bool) (name n : List Bool) (names : List (List Bool)) → AreRising (n ∷ names) → AreRising (unmarked name names) → AreRising (cond a (n ∷ names) (cond b names (n ∷ unmarked name names)))
left_rising true b name n names rising rest = rising
left_rising false true name n names rising rest = rising.1
left_rising false false name n names rising rest = (AreFrom-unmarked (suc (first_key n)) name names rising.0, rest)

pub AreRising-unmarked : (name : List Bool) (names : List (List Bool)) → AreRising names → AreRising (unmarked name names)
AreRising-unmarked name [] rising = tt
AreRising-unmarked name (n ∷ names) rising =
    left_rising (nat_lt (first_key name) (first_key n)) (first_key name == first_key n) name n names rising (AreRising-unmarked name names rising.1)

-- the last of some leaves is set first
pub remarked_each-last : (front : List Mark) (last : Mark) (names : List (List Bool)) → remarked_each (front ++ last ∷ []) names ≡ remarked_each front (remarked last.crowded last.name names)
remarked_each-last [] last names = refl
remarked_each-last (m ∷ front) last names = ap (remarked m.crowded m.name) (remarked_each-last front last names)
