-- What own positions weigh: a weight for each position, added up over the own ones below a bound.
use Rattle.std.proofs.Common.{◌≡◌, ◌≢◌, ℕ, zero, suc, ◌+◌, ◌*◌, ◌<◌, ◌≤◌, List, [], ◌∷◌, ◌++◌, length, refl, ap, ◌∙◌, arith}
use Rattle.std.specs.Prelude.{Option, Some, slice_get, if◌then◌else◌, nat_lt, take}
use Rattle.std.specs.Option.{option_map_or}
use Rattle.std.proofs.Math.Nat.{add-mul}
use Rattle.std.proofs.lemmas.Bool.Decides.{nat_tests}
use mathlib.Core.Logic.{dite}
use native.Mathlib.Decide.{ℕ_discrete}
use Rattle.book_lock.specs.Own.{times, once_below}
use Rattle.book_lock.proofs.Positions.{one_if, one_same, one_other, times-append, once_below-in}

-- what the own positions below this one weigh
abbrev pub weight : (ℕ → ℕ) → List ℕ → ℕ → ℕ
weight g own zero = 0
weight g own (suc n) = weight g own n + times n own * g n

-- what all positions below this one weigh
abbrev pub all_below : (ℕ → ℕ) → ℕ → ℕ
all_below g zero = 0
all_below g (suc n) = all_below g n + g n

-- a weight that counts where its position is below this one
abbrev pub counted : ℕ → ℕ → ℕ → ℕ
counted p n x = if nat_lt p n then x else 0

pub counted-below : (p n x : ℕ) → p < n → counted p n x ≡ x
counted-below p n x below = grind (arith, nat_tests)

pub counted-past : (p n x : ℕ) → n ≤ p → counted p n x ≡ 0
counted-past p n x past = grind (arith, nat_tests)

pub counted-none : (p n : ℕ) → counted p n 0 ≡ 0
counted-none p n = grind (arith, nat_tests)

pub counted-later : (p q n x : ℕ) → p ≤ q → counted q n x ≤ counted p n x
counted-later p q n x later = grind (arith, nat_tests)

-- one bound more
counted-next : (g : ℕ → ℕ) (q n : ℕ) → counted q (suc n) (g q) ≡ counted q n (g q) + one_if q n * g n
counted-next g q n = dite (ℕ_discrete q n)
    (λ (same : q ≡ n).
    let one = one_same q n same in
    let scaled : one_if q n * g n ≡ 1 * g n = ap (λ (k : ℕ). k * g n) one in
    let now = counted-below q (suc n) (g q) (omega arith) in
    let past = counted-past q n (g q) (omega arith) in
    let here : g q ≡ g n = ap g same in
    omega arith)
    (λ (apart : q ≢ n).
    let none = one_other q n apart in
    let scaled : one_if q n * g n ≡ 0 * g n = ap (λ (k : ℕ). k * g n) none in
    let same : counted q (suc n) (g q) ≡ counted q n (g q) = by_order q n (g q) apart in
    omega arith)
  where
    by_order : (q n x : ℕ) → q ≢ n → counted q (suc n) x ≡ counted q n x
    by_order q n x apart = grind (arith, nat_tests)

-- a position more
pub weight-snoc : (g : ℕ → ℕ) (own : List ℕ) (q n : ℕ) → weight g (own ++ q ∷ []) n ≡ weight g own n + counted q n (g q)
weight-snoc g own q zero = let past = counted-past q 0 (g q) (omega arith) in omega arith
weight-snoc g own q (suc n) =
    let h = weight-snoc g own q n in
    let more = times-append n own (q ∷ []) in
    let split : times n (own ++ q ∷ []) * g n ≡ times n own * g n + (one_if q n + 0) * g n = ap (λ (k : ℕ). k * g n) more ∙ add-mul (times n own) (one_if q n + 0) (g n) in
    let plain : (one_if q n + 0) * g n ≡ one_if q n * g n = ap (λ (k : ℕ). k * g n) (by_zero (one_if q n)) in
    let next = counted-next g q n in
    omega arith
  where
    by_zero : (n : ℕ) → n + 0 ≡ n
    by_zero n = omega arith

-- no position weighs nothing
pub weight-nil : (g : ℕ → ℕ) (n : ℕ) → weight g [] n ≡ 0
weight-nil g zero = refl
weight-nil g (suc n) = let h = weight-nil g n in omega arith

-- what weighs as often as its position is own
pub weight-same : (g : ℕ → ℕ) (xs ys : List ℕ) → ((p : ℕ) → times p xs ≡ times p ys) → (n : ℕ) → weight g xs n ≡ weight g ys n
weight-same g xs ys same zero = refl
weight-same g xs ys same (suc n) =
    let h = weight-same g xs ys same n in
    let here : times n xs * g n ≡ times n ys * g n = ap (λ (k : ℕ). k * g n) (same n) in
    omega arith

-- where each position is own once
pub weight-all : (g : ℕ → ℕ) (own : List ℕ) (most : ℕ) → ((p : ℕ) → times p own ≡ once_below p most) → (n : ℕ) → n ≤ most → weight g own n ≡ all_below g n
weight-all g own most once zero le = refl
weight-all g own most once (suc n) le =
    let h = weight-all g own most once n (omega arith) in
    let one : times n own ≡ 1 = once n ∙ once_below-in n most (omega arith) in
    let here : times n own * g n ≡ 1 * g n = ap (λ (k : ℕ). k * g n) one in
    omega arith

-- the weight of what stands at a position
abbrev pub at : {A : Type 0} → (A → ℕ) → List A → ℕ → ℕ
at f h p = option_map_or f (slice_get h p) 0

pub at-is : {A : Type 0} (f : A → ℕ) (h : List A) (p : ℕ) (e : A) → slice_get h p ≡ Some e → at f h p ≡ f e
at-is f h p e is = ap (λ (o : Option _). option_map_or f o 0) is

-- a weight for each entry, added up over a history
abbrev pub sum_of : {A : Type 0} → (A → ℕ) → List A → ℕ
sum_of f [] = 0
sum_of f (e ∷ h) = f e + sum_of f h

below-first : (g : ℕ → ℕ) (n : ℕ) → all_below g (suc n) ≡ g 0 + all_below (λ p. g (suc p)) n
below-first g zero = omega arith
below-first g (suc n) = let h = below-first g n in omega arith

pub below-take : {A : Type 0} (f : A → ℕ) (h : List A) (n : ℕ) → n ≤ length h → all_below (at f h) n ≡ sum_of f (take n h)
below-take f h zero le = refl
below-take f [] (suc n) le = absurd (omega arith)
below-take f (e ∷ h) (suc n) le = below-first (at f (e ∷ h)) n ∙ ap (λ (k : ℕ). f e + k) (below-take f h n (omega arith))
