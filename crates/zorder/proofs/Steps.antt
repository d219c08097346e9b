-- Five steps by shifts and masks move every bit as the sums over bits say.
use Rattle.std.proofs.Common.{◌≡◌, ℕ, zero, suc, ◌+◌, ◌*◌, ◌/◌, ◌%◌, ◌^◌, ◌<◌, ◌≤◌, Bool, true, ◌&&◌, ◌==◌, inl, inr, refl, sym, ◌∙◌, ap, arith, subst}
use Rattle.std.specs.Prelude.{bit_and, bit_or}
use Rattle.std.proofs.Math.Nat.{add_comm, mod-eq_of_lt, zero-mul, one-mul, mul-zero, mod-one}
use Rattle.std.proofs.lemmas.Bool.{cases_lt, eqb-true}
use Rattle.std.proofs.lemmas.Nat.{or_block, or_mod, or_shr, or_shifted, mod-pow-add, mod_below, pow_pos}
use Rattle.std.proofs.lemmas.Nat.Bits.{bit_at-lt, bit_at_and, bit_at_or, same_from_bits}
use Rattle.std.specs.Cmp.{first_so, second_so}
use Rattle.std.specs.Int.{bit_at}
use Rattle.zorder.specs.Key.{key_below, key_of, even_below, even_bits}
use Rattle.zorder.specs.Spread.{spread_below, spread_bits, step_apart, step_together}
use Rattle.zorder.specs.declared.points.Point.{Point}
use Rattle.zorder.proofs.Places.{pow_odd, pow_next, at_most, even_below-lt}

-- it moves bits one by one: of two numbers joined by "or" it gives what it gives of each
abbrev Joins : (ℕ → ℕ) → Type 0
Joins f = (a b : ℕ) → f (bit_or a b) ≡ bit_or (f a) (f b)

joins-then : (f g : ℕ → ℕ) → Joins f → Joins g → Joins (λ n. f (g n))
joins-then f g first second a b = ap f (second a b) ∙ first (g a) (g b)

and_or : (a b mask : ℕ) → bit_and (bit_or a b) mask ≡ bit_or (bit_and a mask) (bit_and b mask)
and_or a b mask =
    same_from_bits _ _
    (λ i. omega (arith, bit_at_and (bit_or a b) mask i, bit_at_or a b i, bit_at_or (bit_and a mask) (bit_and b mask) i, bit_at_and a mask i, bit_at_and b mask i))

or_swap : (a b c d : ℕ) → bit_or (bit_or a b) (bit_or c d) ≡ bit_or (bit_or a c) (bit_or b d)
or_swap a b c d =
    same_from_bits _ _
    (λ i. omega (arith, bit_at_or (bit_or a b) (bit_or c d) i, bit_at_or a b i, bit_at_or c d i, bit_at_or (bit_or a c) (bit_or b d) i, bit_at_or a c i, bit_at_or b d i))

-- a shift of both is a shift of the two joined
shl_block : (s a b : ℕ) → bit_or (a * 2 ^ s) (b * 2 ^ s) ≡ bit_or a b * 2 ^ s
shl_block s a b =
    let left : a * 2 ^ s + 0 ≡ a * 2 ^ s = omega arith in
    let right : b * 2 ^ s + 0 ≡ b * 2 ^ s = omega arith in
    let joined : bit_or a b * 2 ^ s + 0 ≡ bit_or a b * 2 ^ s = omega arith in
    (λ i. bit_or (sym left i) (sym right i)) ∙ or_block s a b 0 0 (pow_pos s) (pow_pos s) ∙ joined

shl_or : (s a b : ℕ) → bit_or a b * 2 ^ s % 2 ^ 64 ≡ bit_or (a * 2 ^ s % 2 ^ 64) (b * 2 ^ s % 2 ^ 64)
shl_or s a b = ap (λ n. n % 2 ^ 64) (sym (shl_block s a b)) ∙ or_mod (a * 2 ^ s) (b * 2 ^ s) 64

step_apart-or : (s m : ℕ) → Joins (step_apart s m)
step_apart-or s m a b =
    ap (λ n. bit_and (bit_or (bit_or a b) n) m) (shl_or s a b)
    ∙ ap (λ n. bit_and n m) (or_swap a b (a * 2 ^ s % 2 ^ 64) (b * 2 ^ s % 2 ^ 64))
    ∙ and_or (bit_or a (a * 2 ^ s % 2 ^ 64)) (bit_or b (b * 2 ^ s % 2 ^ 64)) m

step_together-or : (s m : ℕ) → Joins (step_together s m)
step_together-or s m a b =
    ap (λ n. bit_and (bit_or (bit_or a b) n) m) (or_shr a b s)
    ∙ ap (λ n. bit_and n m) (or_swap a b (a / 2 ^ s) (b / 2 ^ s))
    ∙ and_or (bit_or a (a / 2 ^ s)) (bit_or b (b / 2 ^ s)) m

-- the five steps apart
abbrev apart_16 : ℕ → ℕ
apart_16 n = step_apart 16 0x0000FFFF0000FFFF n

abbrev apart_8 : ℕ → ℕ
apart_8 n = step_apart 8 0x00FF00FF00FF00FF (apart_16 n)

abbrev apart_4 : ℕ → ℕ
apart_4 n = step_apart 4 0x0F0F0F0F0F0F0F0F (apart_8 n)

abbrev apart_2 : ℕ → ℕ
apart_2 n = step_apart 2 0x3333333333333333 (apart_4 n)

unfoldable pub apart : ℕ → ℕ
apart n = step_apart 1 0x5555555555555555 (apart_2 n)

apart-or : Joins apart
unfolding apart
apart-or =
    joins-then (step_apart 1 0x5555555555555555) apart_2 (step_apart-or 1 0x5555555555555555)
    (joins-then (step_apart 2 0x3333333333333333) apart_4 (step_apart-or 2 0x3333333333333333)
    (joins-then (step_apart 4 0x0F0F0F0F0F0F0F0F) apart_8 (step_apart-or 4 0x0F0F0F0F0F0F0F0F)
    (joins-then (step_apart 8 0x00FF00FF00FF00FF) apart_16 (step_apart-or 8 0x00FF00FF00FF00FF) (step_apart-or 16 0x0000FFFF0000FFFF))))

-- each single bit goes to twice its place
abbrev apart_test : ℕ → Bool
apart_test zero = true
apart_test (suc i) = (apart (2 ^ i) == 2 ^ (2 * i)) && apart_test i

apart_all : apart_test 32 ≡ true
unfolding apart
apart_all = refl

test_apart : (n i : ℕ) → i < n → apart_test n ≡ true → apart (2 ^ i) ≡ 2 ^ (2 * i)
test_apart zero i h t = absurd (omega arith)
test_apart (suc n) i h t =
    elim (cases_lt i n) [
      | inl l ↦ test_apart n i l (second_so (apart (2 ^ n) == 2 ^ (2 * n)) (apart_test n) t)
      | inr g ↦
          let e : i ≡ n = omega arith in
          subst (λ m. apart (2 ^ m) ≡ 2 ^ (2 * m)) (sym e) (eqb-true (apart (2 ^ n)) (2 ^ (2 * n)) (first_so (apart (2 ^ n) == 2 ^ (2 * n)) (apart_test n) t))
    ]

apart-zero : apart 0 ≡ 0
unfolding apart
apart-zero = refl

times : (f : ℕ → ℕ) (p q : ℕ) → f 0 ≡ 0 → f p ≡ q → (b : ℕ) → b < 2 → f (b * p) ≡ b * q
times f p q none one zero h = ap f (zero-mul p) ∙ none ∙ sym (zero-mul q)
times f p q none one (suc zero) h = ap f (one-mul p) ∙ one ∙ sym (one-mul q)
times f p q none one (suc (suc b)) h = absurd (omega arith)

-- one more bit of a number, joined by "or"
mod-suc : (n i : ℕ) → n % 2 ^ suc i ≡ bit_or (bit_at n i * 2 ^ i) (n % 2 ^ i)
mod-suc n i =
    let e : suc i ≡ 1 + i = omega arith in
    ap (λ k. n % 2 ^ k) e ∙ mod-pow-add n 1 i ∙ sym (or_shifted (bit_at n i) i (n % 2 ^ i) (mod_below n (2 ^ i) (pow_pos i)))

spread_below-lt : (i n : ℕ) → spread_below i n < 2 ^ (2 * i)
spread_below-lt zero n = omega arith
spread_below-lt (suc i) n = omega (arith, spread_below-lt i n, pow_next i, at_most (bit_at n i) (2 ^ (2 * i)) (bit_at-lt n i))

apart-below : (n i : ℕ) → i ≤ 32 → apart (n % 2 ^ i) ≡ spread_below i n
apart-below n zero h = ap apart (mod-one n) ∙ apart-zero
apart-below n (suc i) h =
    ap apart (mod-suc n i)
    ∙ apart-or (bit_at n i * 2 ^ i) (n % 2 ^ i)
    ∙ (λ j. bit_or (times apart (2 ^ i) (2 ^ (2 * i)) apart-zero (test_apart 32 i (omega arith) apart_all) (bit_at n i) (bit_at-lt n i) j) (apart-below n i (omega arith) j))
    ∙ or_shifted (bit_at n i) (2 * i) (spread_below i n) (spread_below-lt i n)
    ∙ add_comm (bit_at n i * 2 ^ (2 * i)) (spread_below i n)

pub apart-spread : (n : ℕ) → n < 2 ^ 32 → apart n ≡ spread_bits n
unfolding spread_bits
apart-spread n fits = ap apart (sym (mod-eq_of_lt fits)) ∙ apart-below n 32 (omega arith)

-- the five steps together, after the bits at odd places are gone
abbrev evens : ℕ → ℕ
evens n = bit_and n 0x5555555555555555

abbrev together_1 : ℕ → ℕ
together_1 n = step_together 1 0x3333333333333333 (evens n)

abbrev together_2 : ℕ → ℕ
together_2 n = step_together 2 0x0F0F0F0F0F0F0F0F (together_1 n)

abbrev together_4 : ℕ → ℕ
together_4 n = step_together 4 0x00FF00FF00FF00FF (together_2 n)

abbrev together_8 : ℕ → ℕ
together_8 n = step_together 8 0x0000FFFF0000FFFF (together_4 n)

unfoldable pub together : ℕ → ℕ
together n = step_together 16 0xFFFFFFFF (together_8 n)

together-or : Joins together
unfolding together
together-or =
    joins-then (step_together 16 0xFFFFFFFF) together_8 (step_together-or 16 0xFFFFFFFF)
    (joins-then (step_together 8 0x0000FFFF0000FFFF) together_4 (step_together-or 8 0x0000FFFF0000FFFF)
    (joins-then (step_together 4 0x00FF00FF00FF00FF) together_2 (step_together-or 4 0x00FF00FF00FF00FF)
    (joins-then (step_together 2 0x0F0F0F0F0F0F0F0F) together_1 (step_together-or 2 0x0F0F0F0F0F0F0F0F)
    (joins-then (step_together 1 0x3333333333333333) evens (step_together-or 1 0x3333333333333333) (λ a b. and_or a b 0x5555555555555555)))))

-- each single bit at an even place goes to half its place, and one at an odd place goes
abbrev together_test : ℕ → Bool
together_test zero = true
together_test (suc i) = ((together (2 ^ (2 * i)) == 2 ^ i) && (together (2 ^ suc (2 * i)) == 0)) && together_test i

together_all : together_test 32 ≡ true
unfolding together
together_all = refl

test_together : (n i : ℕ) → i < n → together_test n ≡ true → (together (2 ^ (2 * i)) ≡ 2 ^ i) × (together (2 ^ suc (2 * i)) ≡ 0)
test_together zero i h t = absurd (omega arith)
test_together (suc n) i h t =
    elim (cases_lt i n) [
      | inl l ↦ test_together n i l (second_so ((together (2 ^ (2 * n)) == 2 ^ n) && (together (2 ^ suc (2 * n)) == 0)) (together_test n) t)
      | inr g ↦
          let e : i ≡ n = omega arith in
          let both : ((together (2 ^ (2 * n)) == 2 ^ n) && (together (2 ^ suc (2 * n)) == 0)) ≡ true = first_so ((together (2 ^ (2 * n)) == 2 ^ n) && (together (2 ^ suc (2 * n)) == 0)) (together_test n) t in
          subst (λ m. (together (2 ^ (2 * m)) ≡ 2 ^ m) × (together (2 ^ suc (2 * m)) ≡ 0)) (sym e) (
            eqb-true (together (2 ^ (2 * n))) (2 ^ n) (first_so (together (2 ^ (2 * n)) == 2 ^ n) (together (2 ^ suc (2 * n)) == 0) both),
            eqb-true (together (2 ^ suc (2 * n))) 0 (second_so (together (2 ^ (2 * n)) == 2 ^ n) (together (2 ^ suc (2 * n)) == 0) both),
          )
    ]

together-zero : together 0 ≡ 0
unfolding together
together-zero = refl

times_none : (f : ℕ → ℕ) (p : ℕ) → f 0 ≡ 0 → f p ≡ 0 → (b : ℕ) → b < 2 → f (b * p) ≡ 0
times_none f p none one b h = times f p 0 none one b h ∙ mul-zero b

mod-two_more : (n i : ℕ) → n % 2 ^ (2 * suc i) ≡ bit_or (bit_at n (suc (2 * i)) * 2 ^ suc (2 * i)) (bit_or (bit_at n (2 * i) * 2 ^ (2 * i)) (n % 2 ^ (2 * i)))
mod-two_more n i =
    let e : 2 * suc i ≡ suc (suc (2 * i)) = omega arith in
    ap (λ k. n % 2 ^ k) e ∙ mod-suc n (suc (2 * i)) ∙ ap (bit_or (bit_at n (suc (2 * i)) * 2 ^ suc (2 * i))) (mod-suc n (2 * i))

together-below : (n i : ℕ) → i ≤ 32 → together (n % 2 ^ (2 * i)) ≡ even_below i n
together-below n zero h = ap together (mod-one n) ∙ together-zero
together-below n (suc i) h =
    let one = test_together 32 i (omega arith) together_all in
    let odd : together (bit_at n (suc (2 * i)) * 2 ^ suc (2 * i)) ≡ 0 = times_none together (2 ^ suc (2 * i)) together-zero one.1 (bit_at n (suc (2 * i))) (bit_at-lt n (suc (2 * i))) in
    let even : together (bit_at n (2 * i) * 2 ^ (2 * i)) ≡ bit_at n (2 * i) * 2 ^ i = times together (2 ^ (2 * i)) (2 ^ i) together-zero one.0 (bit_at n (2 * i)) (bit_at-lt n (2 * i)) in
    let rest : together (n % 2 ^ (2 * i)) ≡ even_below i n = together-below n i (omega arith) in
    ap together (mod-two_more n i)
    ∙ together-or (bit_at n (suc (2 * i)) * 2 ^ suc (2 * i)) (bit_or (bit_at n (2 * i) * 2 ^ (2 * i)) (n % 2 ^ (2 * i)))
    ∙ (λ j. bit_or (odd j) (together-or (bit_at n (2 * i) * 2 ^ (2 * i)) (n % 2 ^ (2 * i)) j))
    ∙ (λ j. bit_or 0 (bit_or (even j) (rest j)))
    ∙ or_shifted (bit_at n (2 * i)) i (even_below i n) (even_below-lt i n)
    ∙ add_comm (bit_at n (2 * i) * 2 ^ i) (even_below i n)

pub together-even : (n : ℕ) → n < 2 ^ 64 → together n ≡ even_bits n
unfolding even_bits
together-even n fits = ap together (sym (mod-eq_of_lt fits)) ∙ together-below n 32 (omega arith)

third : (i n : ℕ) → 3 * spread_below i n < 2 ^ (2 * i)
third zero n = omega arith
third (suc i) n = omega (arith, third i n, pow_next i, at_most (bit_at n i) (2 ^ (2 * i)) (bit_at-lt n i))

-- a number spread leaves room for another beside it
pub spread_bits-third : (n : ℕ) → 3 * spread_bits n < 2 ^ 64
unfolding spread_bits
spread_bits-third n = third 32 n

-- the key is twice what x spreads to, and what y spreads to
key_below-spread : (i : ℕ) (p : Point) → 2 * spread_below i p.x + spread_below i p.y ≡ key_below i p
key_below-spread zero p = refl
key_below-spread (suc i) p = rw (pow_odd i) (omega (arith, key_below-spread i p))

pub key_of-spread : (p : Point) → 2 * spread_bits p.x + spread_bits p.y ≡ key_of p
unfolding spread_bits key_of
key_of-spread p = key_below-spread 32 p
