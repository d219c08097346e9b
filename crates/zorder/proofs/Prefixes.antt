-- The longest common prefix of two keys is as long as the zeros before the first bit in which they differ.
use Rattle.std.proofs.Common.{◌≡◌, ℕ, zero, suc, ◌+◌, ◌-◌, ◌*◌, ◌/◌, ◌%◌, ◌^◌, ◌<◌, ◌≤◌, true, false, ◌==◌, [], ◌∷◌, take, refl, sym, ◌∙◌, ap, arith}
use Rattle.std.specs.Prelude.{bit_xor, if◌then◌else◌}
use Rattle.std.proofs.Math.Nat.{pow-succ'}
use Rattle.std.proofs.lemmas.Nat.{leading_length, xor_lt, div-mul-add}
use Rattle.std.proofs.lemmas.Nat.Bits.{bit_at-lt, bit_at_above, bit_at_xor}
use Rattle.std.specs.Int.{bit_at}
use lib.Count.{count_leading_zeros}
use mathlib.Core.Bool.{beq}
use Rattle.zorder.specs.Bits.{low_bits, common_prefix}
use Rattle.zorder.specs.Key.{key_bits, common_name}

bits_same : (p q : ℕ) → p < 2 → q < 2 → (p + q) % 2 ≡ 0 → beq (p == 1) (q == 1) ≡ true
bits_same zero zero hp hq e = refl
bits_same zero (suc zero) hp hq e = absurd (omega arith)
bits_same (suc zero) zero hp hq e = absurd (omega arith)
bits_same (suc zero) (suc zero) hp hq e = refl
bits_same (suc (suc p)) q hp hq e = absurd (omega arith)
bits_same p (suc (suc q)) hp hq e = absurd (omega arith)

bits_differ : (p q : ℕ) → p < 2 → q < 2 → (p + q) % 2 ≡ 1 → beq (p == 1) (q == 1) ≡ false
bits_differ zero zero hp hq e = absurd (omega arith)
bits_differ zero (suc zero) hp hq e = refl
bits_differ (suc zero) zero hp hq e = refl
bits_differ (suc zero) (suc zero) hp hq e = absurd (omega arith)
bits_differ (suc (suc p)) q hp hq e = absurd (omega arith)
bits_differ p (suc (suc q)) hp hq e = absurd (omega arith)

top_bit : (n i : ℕ) → 2 ^ i ≤ n → n < 2 * 2 ^ i → bit_at n i ≡ 1
top_bit n i low high =
    let parts : n ≡ 1 * 2 ^ i + (n - 2 ^ i) = omega arith in
    let one : n / 2 ^ i ≡ 1 = ap (λ k. k / 2 ^ i) parts ∙ div-mul-add 1 (2 ^ i) (n - 2 ^ i) (omega arith) in
    ap (λ k. k % 2) one

take_none : (c : ℕ) → take c (low_bits 0 0) ≡ []
take_none zero = refl
take_none (suc c) = refl

-- where the highest bit in which they differ stands below the last m
common_prefix-low_bits : (w c m a b : ℕ) → c + m ≡ w → bit_xor a b < 2 ^ m → 2 ^ m ≤ 2 * bit_xor a b + 1 → common_prefix (low_bits w a) (low_bits w b) ≡ take c (low_bits w a)
common_prefix-low_bits zero c m a b e low high = sym (take_none c)
common_prefix-low_bits (suc i) zero m a b e low high =
    let all : m ≡ suc i = omega arith in
    let double : 2 ^ suc i ≡ 2 * 2 ^ i = pow-succ' 2 i in
    let same : 2 ^ m ≡ 2 ^ suc i = ap (λ k. 2 ^ k) all in
    let top : bit_at (bit_xor a b) i ≡ 1 = top_bit (bit_xor a b) i (omega (arith, same, high, double)) (omega (arith, same, low, double)) in
    ap (λ t. if t then (bit_at a i == 1) ∷ common_prefix (low_bits i a) (low_bits i b) else [])
    (bits_differ (bit_at a i) (bit_at b i) (bit_at-lt a i) (bit_at-lt b i) (sym (bit_at_xor a b i) ∙ top))
common_prefix-low_bits (suc i) (suc c) m a b e low high =
    let le : m ≤ i = omega arith in
    let none : bit_at (bit_xor a b) i ≡ 0 = bit_at_above (bit_xor a b) m i low le in
    ap (λ t. if t then (bit_at a i == 1) ∷ common_prefix (low_bits i a) (low_bits i b) else [])
    (bits_same (bit_at a i) (bit_at b i) (bit_at-lt a i) (bit_at-lt b i) (sym (bit_at_xor a b i) ∙ none))
    ∙ ap (λ l. (bit_at a i == 1) ∷ l) (common_prefix-low_bits i c m a b (omega arith) low high)

pub common_name-zeros : (a b : ℕ) → a < 2 ^ 64 → b < 2 ^ 64 → take (count_leading_zeros 64 (bit_xor a b)) (key_bits a) ≡ common_name a b
unfolding key_bits
common_name-zeros a b ha hb =
    let (m, is, low, high) = leading_length 64 (bit_xor a b) (xor_lt 64 a b ha hb) in
    sym (common_prefix-low_bits 64 (count_leading_zeros 64 (bit_xor a b)) m a b is low high)
