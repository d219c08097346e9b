-- The bits of a key at even places have the order of the numbers that they make.
use Rattle.std.proofs.Common.{◌≡◌, ℕ, zero, suc, ◌+◌, ◌*◌, ◌%◌, ◌^◌, ◌<◌, ◌≤◌, inl, inr, refl, sym, ◌∙◌, ap, arith}
use Rattle.std.specs.Prelude.{nat_le, bit_and}
use Rattle.std.specs.Cmp.{both_ways}
use Rattle.std.specs.Int.{bit_at}
use Rattle.std.proofs.Math.Nat.{mod-eq_of_lt}
use Rattle.std.proofs.lemmas.Bool.{cases_lt, le-leb, leb-true}
use Rattle.std.proofs.lemmas.Nat.{and_le_l, mod-pow-add, mod_below, pow_pos}
use Rattle.std.proofs.lemmas.Nat.Bits.{bit_at_and, bit_at-lt, bit_at-zero, bit_at_ones, same_from_bits_below}
use Rattle.zorder.specs.Key.{key_of, even_bits}
use Rattle.zorder.specs.Spread.{spread_below, spread_bits}
use Rattle.zorder.specs.declared.points.Point.{Point}
use Rattle.zorder.proofs.Places.{at_most, pow_next, even_bits-lt, key_of-lt, cases_place, bit_at-key_of-x, bit_at-key_of-y, bit_at-point_of-y}
use Rattle.zorder.proofs.Steps.{key_of-spread}

-- the point above a number
abbrev above : ℕ → Point
above y = record { x = 0; y = y }

-- the mask is the key of a point, whose bits are known
mask-key : key_of (above 0xFFFFFFFF) ≡ 0x5555555555555555
unfolding key_of
mask-key = refl

mask-even : (i : ℕ) → i < 32 → bit_at 0x5555555555555555 (2 * i) ≡ 1
mask-even i h = ap (λ n. bit_at n (2 * i)) (sym mask-key) ∙ bit_at-key_of-y (above 0xFFFFFFFF) i h ∙ bit_at_ones 32 i h

mask-odd : (i : ℕ) → i < 32 → bit_at 0x5555555555555555 (2 * i + 1) ≡ 0
mask-odd i h = ap (λ n. bit_at n (2 * i + 1)) (sym mask-key) ∙ bit_at-key_of-x (above 0xFFFFFFFF) i h ∙ bit_at-zero i

masked-even : (k i : ℕ) → i < 32 → bit_at (bit_and k 0x5555555555555555) (2 * i) ≡ bit_at k (2 * i)
masked-even k i h = omega (arith, bit_at_and k 0x5555555555555555 (2 * i), mask-even i h, bit_at-lt k (2 * i))

masked-odd : (k i : ℕ) → i < 32 → bit_at (bit_and k 0x5555555555555555) (2 * i + 1) ≡ 0
masked-odd k i h = omega (arith, bit_at_and k 0x5555555555555555 (2 * i + 1), mask-odd i h)

masked-key : (k : ℕ) → k < 2 ^ 64 → bit_and k 0x5555555555555555 ≡ key_of (above (even_bits k))
masked-key k fits =
    same_from_bits_below 64 (bit_and k 0x5555555555555555) (key_of (above (even_bits k))) (omega (arith, and_le_l k 0x5555555555555555)) (key_of-lt (above (even_bits k)))
    (cases_place (λ i. bit_at (bit_and k 0x5555555555555555) i ≡ bit_at (key_of (above (even_bits k))) i)
    (λ i h. masked-even k i h ∙ sym (bit_at-key_of-y (above (even_bits k)) i h ∙ bit_at-point_of-y k i h))
    (λ i h. masked-odd k i h ∙ sym (bit_at-key_of-x (above (even_bits k)) i h ∙ bit_at-zero i)))

spread-none : spread_bits 0 ≡ 0
unfolding spread_bits
spread-none = refl

-- what the mask leaves of a key
pub masked : (k : ℕ) → k < 2 ^ 64 → bit_and k 0x5555555555555555 ≡ spread_bits (even_bits k)
masked k fits = omega (arith, masked-key k fits, key_of-spread (above (even_bits k)), spread-none)

spread-fits : (i n : ℕ) → spread_below i n < 2 ^ (2 * i)
spread-fits zero n = omega arith
spread-fits (suc i) n = omega (arith, spread-fits i n, pow_next i, at_most (bit_at n i) (2 ^ (2 * i)) (bit_at-lt n i))

-- a bit before other bits
one_more : (n i : ℕ) → n % 2 ^ suc i ≡ bit_at n i * 2 ^ i + n % 2 ^ i
one_more n i = let e : suc i ≡ 1 + i = omega arith in ap (λ k. n % 2 ^ k) e ∙ mod-pow-add n 1 i

none_of : (b q : ℕ) → b < 1 → b * q ≡ 0
none_of b q h = grind arith

one_of : (b q : ℕ) → 1 ≤ b → b < 2 → b * q ≡ q
one_of b q h less = grind arith

spread_below-less : (i a b : ℕ) → a % 2 ^ i < b % 2 ^ i → spread_below i a < spread_below i b
spread_below-less zero a b h = absurd (omega (arith, h))
spread_below-less (suc i) a b h =
    let p = 2 ^ i in
    let q = 2 ^ (2 * i) in
    let x = bit_at a i in
    let y = bit_at b i in
    elim (cases_lt x 1) [
      | inl no_x ↦
          elim (cases_lt y 1) [
            | inl no_y ↦
                omega (
                  arith,
                  spread_below-less i a b (omega (arith, h, one_more a i, one_more b i, none_of x p no_x, none_of y p no_y)),
                  none_of x q no_x,
                  none_of y q no_y,
                )
            | inr one_y ↦ omega (arith, spread-fits i a, none_of x q no_x, one_of y q one_y (bit_at-lt b i))
          ]
      | inr one_x ↦
          elim (cases_lt y 1) [
            | inl no_y ↦
                absurd (omega (arith, h, one_more a i, one_more b i, one_of x p one_x (bit_at-lt a i), none_of y p no_y, mod_below b p (pow_pos i)))
            | inr one_y ↦
                omega (
                  arith,
                  spread_below-less i a b (omega (arith, h, one_more a i, one_more b i, one_of x p one_x (bit_at-lt a i), one_of y p one_y (bit_at-lt b i))),
                  one_of x q one_x (bit_at-lt a i),
                  one_of y q one_y (bit_at-lt b i),
                )
          ]
    ]

spread-less : (a b : ℕ) → a < 2 ^ 32 → b < 2 ^ 32 → a < b → spread_bits a < spread_bits b
unfolding spread_bits
spread-less a b fits_a fits_b less = spread_below-less 32 a b (omega (arith, less, mod-eq_of_lt fits_a, mod-eq_of_lt fits_b))

-- numbers that are spread have the order of the numbers
pub spread-order : (a b : ℕ) → a < 2 ^ 32 → b < 2 ^ 32 → nat_le (spread_bits a) (spread_bits b) ≡ nat_le a b
spread-order a b fits_a fits_b =
    both_ways _ _
    (λ e. let low : spread_bits a ≤ spread_bits b = leb-true (spread_bits a) (spread_bits b) e in
    elim (cases_lt b a) [
      | inl less ↦ absurd (omega (arith, low, spread-less b a fits_b fits_a less))
      | inr most ↦ le-leb a b most
    ])
    (λ e. elim (cases_lt a b) [
      | inl less ↦ le-leb (spread_bits a) (spread_bits b) (omega (arith, spread-less a b fits_a fits_b less))
      | inr most ↦
          let same : a ≡ b = omega (arith, most, leb-true a b e) in
          le-leb (spread_bits a) (spread_bits b) (omega (arith, ap spread_bits same))
    ])

-- the same of what even places make
pub evens-order : (k l : ℕ) → nat_le (spread_bits (even_bits k)) (spread_bits (even_bits l)) ≡ nat_le (even_bits k) (even_bits l)
evens-order k l = spread-order (even_bits k) (even_bits l) (even_bits-lt k) (even_bits-lt l)
