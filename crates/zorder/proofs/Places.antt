-- The bits of a key are those of its point, and each of the two determines the other.
use Rattle.std.proofs.Common.{◌≡◌, ℕ, zero, suc, ◌+◌, ◌-◌, ◌*◌, ◌/◌, ◌%◌, ◌^◌, ◌<◌, ◌≤◌, inl, inr, sym, ◌∙◌, ap, arith, subst}
use Rattle.std.proofs.Math.Nat.{pow-succ', add_comm}
use Rattle.std.proofs.lemmas.Bool.{cases_lt}
use Rattle.std.proofs.lemmas.Nat.Bits.{bit_at_lowest, bit_at-suc, bit_at-lt, bit_at_cat_low, bit_at_cat_high, same_from_bits_below}
use Rattle.std.specs.Int.{bit_at}
use Rattle.zorder.specs.Key.{key_below, key_of, even_below, even_bits, point_of, IsPoint}
use Rattle.zorder.specs.declared.points.Point.{Point}

pub pow_odd : (i : ℕ) → 2 ^ (2 * i + 1) ≡ 2 * 2 ^ (2 * i)
pow_odd i = let e : 2 * i + 1 ≡ suc (2 * i) = omega arith in ap (λ k. 2 ^ k) e ∙ pow-succ' 2 (2 * i)

pub pow_next : (i : ℕ) → 2 ^ (2 * suc i) ≡ 4 * 2 ^ (2 * i)
pow_next i =
    let e : 2 * suc i ≡ suc (suc (2 * i)) = omega arith in
    let one : 2 ^ suc (2 * i) ≡ 2 * 2 ^ (2 * i) = pow-succ' 2 (2 * i) in
    let two : 2 ^ suc (suc (2 * i)) ≡ 2 * 2 ^ suc (2 * i) = pow-succ' 2 (suc (2 * i)) in
    ap (λ k. 2 ^ k) e ∙ omega (arith, one, two)

pub at_most : (b q : ℕ) → b < 2 → b * q ≤ q
at_most b q h = grind arith

-- two bits stand before what is below them
pair : (a b i rest : ℕ) → rest + (a * 2 ^ (2 * i + 1) + b * 2 ^ (2 * i)) ≡ (2 * a + b) * 2 ^ (2 * i) + rest
pair a b i rest = rw (pow_odd i) (omega arith)

pub key_below-lt : (n : ℕ) (p : Point) → key_below n p < 2 ^ (2 * n)
key_below-lt zero p = omega arith
key_below-lt (suc i) p =
    omega (arith, key_below-lt i p, pow_odd i, pow_next i, at_most (bit_at p.x i) (2 ^ (2 * i + 1)) (bit_at-lt p.x i), at_most (bit_at p.y i) (2 ^ (2 * i)) (bit_at-lt p.y i))

pub even_below-lt : (n k : ℕ) → even_below n k < 2 ^ n
even_below-lt zero k = omega arith
even_below-lt (suc i) k =
    omega (arith, even_below-lt i k, pow-succ' 2 i, at_most (bit_at k (2 * i)) (2 ^ i) (bit_at-lt k (2 * i)))

low_bit : (b : ℕ) → b < 2 → bit_at b 0 ≡ b
low_bit b h = bit_at_lowest b ∙ (omega arith)

-- the two bits of a pair
pair_low : (a b : ℕ) → a < 2 → b < 2 → bit_at (2 * a + b) 0 ≡ b
pair_low a b ha hb = bit_at_lowest (2 * a + b) ∙ (omega arith)

pair_high : (a b : ℕ) → a < 2 → b < 2 → bit_at (2 * a + b) 1 ≡ a
pair_high a b ha hb =
    let half : (2 * a + b) / 2 ≡ a = omega arith in
    bit_at-suc (2 * a + b) 0 ∙ ap (λ n. bit_at n 0) half ∙ low_bit a ha

-- the key of one bit more: a pair of bits before the key of the others
key_below-suc : (n : ℕ) (p : Point) → key_below (suc n) p ≡ (2 * bit_at p.x n + bit_at p.y n) * 2 ^ (2 * n) + key_below n p
key_below-suc n p = pair (bit_at p.x n) (bit_at p.y n) n (key_below n p)

-- bit 2i+1 of a key is bit i of x, and bit 2i is bit i of y
pub bit_at-key_below-x : (n i : ℕ) (p : Point) → i < n → bit_at (key_below n p) (2 * i + 1) ≡ bit_at p.x i
bit_at-key_below-x zero i p h = absurd (omega arith)
bit_at-key_below-x (suc n) i p h =
    let a : ℕ = bit_at p.x n in
    let b : ℕ = bit_at p.y n in
    ap (λ k. bit_at k (2 * i + 1)) (key_below-suc n p)
    ∙ elim (cases_lt i n) [
      | inl l ↦ bit_at_cat_low (2 * a + b) (2 * n) (key_below n p) (2 * i + 1) (omega arith) ∙ bit_at-key_below-x n i p l
      | inr g ↦
          let e : i ≡ n = omega arith in
          let one : 2 * i + 1 - 2 * n ≡ 1 = omega arith in
          bit_at_cat_high (2 * a + b) (2 * n) (key_below n p) (2 * i + 1) (key_below-lt n p) (omega arith)
          ∙ ap (bit_at (2 * a + b)) one ∙ pair_high a b (bit_at-lt p.x n) (bit_at-lt p.y n) ∙ ap (bit_at p.x) (sym e)
    ]

pub bit_at-key_below-y : (n i : ℕ) (p : Point) → i < n → bit_at (key_below n p) (2 * i) ≡ bit_at p.y i
bit_at-key_below-y zero i p h = absurd (omega arith)
bit_at-key_below-y (suc n) i p h =
    let a : ℕ = bit_at p.x n in
    let b : ℕ = bit_at p.y n in
    ap (λ k. bit_at k (2 * i)) (key_below-suc n p)
    ∙ elim (cases_lt i n) [
      | inl l ↦ bit_at_cat_low (2 * a + b) (2 * n) (key_below n p) (2 * i) (omega arith) ∙ bit_at-key_below-y n i p l
      | inr g ↦
          let e : i ≡ n = omega arith in
          let none : 2 * i - 2 * n ≡ 0 = omega arith in
          bit_at_cat_high (2 * a + b) (2 * n) (key_below n p) (2 * i) (key_below-lt n p) (omega arith)
          ∙ ap (bit_at (2 * a + b)) none ∙ pair_low a b (bit_at-lt p.x n) (bit_at-lt p.y n) ∙ ap (bit_at p.y) (sym e)
    ]

-- bit i of the number that the even places make is bit 2i
pub bit_at-even_below : (n i k : ℕ) → i < n → bit_at (even_below n k) i ≡ bit_at k (2 * i)
bit_at-even_below zero i k h = absurd (omega arith)
bit_at-even_below (suc n) i k h =
    let a : ℕ = bit_at k (2 * n) in
    ap (λ m. bit_at m i) (add_comm (even_below n k) (a * 2 ^ n))
    ∙ elim (cases_lt i n) [
      | inl l ↦ bit_at_cat_low a n (even_below n k) i l ∙ bit_at-even_below n i k l
      | inr g ↦
          let e : i ≡ n = omega arith in
          let none : i - n ≡ 0 = omega arith in
          bit_at_cat_high a n (even_below n k) i (even_below-lt n k) g
          ∙ ap (bit_at a) none ∙ low_bit a (bit_at-lt k (2 * n)) ∙ ap (λ m. bit_at k (2 * m)) (sym e)
    ]

pub key_of-lt : (p : Point) → key_of p < 2 ^ 64
unfolding key_of
key_of-lt p = key_below-lt 32 p

pub even_bits-lt : (k : ℕ) → even_bits k < 2 ^ 32
unfolding even_bits
even_bits-lt k = even_below-lt 32 k

pub IsPoint-point_of : (k : ℕ) → IsPoint (point_of k)
IsPoint-point_of k = record { x = even_bits-lt (k / 2); y = even_bits-lt k }

pub bit_at-key_of-x : (p : Point) (i : ℕ) → i < 32 → bit_at (key_of p) (2 * i + 1) ≡ bit_at p.x i
unfolding key_of
bit_at-key_of-x p i h = bit_at-key_below-x 32 i p h

pub bit_at-key_of-y : (p : Point) (i : ℕ) → i < 32 → bit_at (key_of p) (2 * i) ≡ bit_at p.y i
unfolding key_of
bit_at-key_of-y p i h = bit_at-key_below-y 32 i p h

pub bit_at-point_of-x : (k i : ℕ) → i < 32 → bit_at (even_bits (k / 2)) i ≡ bit_at k (2 * i + 1)
unfolding even_bits
bit_at-point_of-x k i h =
    let e : suc (2 * i) ≡ 2 * i + 1 = omega arith in
    bit_at-even_below 32 i (k / 2) h ∙ sym (bit_at-suc k (2 * i)) ∙ ap (bit_at k) e

pub bit_at-point_of-y : (k i : ℕ) → i < 32 → bit_at (even_bits k) i ≡ bit_at k (2 * i)
unfolding even_bits
bit_at-point_of-y k i h = bit_at-even_below 32 i k h

-- a place is even or odd
pub cases_place : (P : ℕ → Type 0) → ((i : ℕ) → i < 32 → P (2 * i)) → ((i : ℕ) → i < 32 → P (2 * i + 1)) → (i : ℕ) → i < 64 → P i
cases_place P even odd i h =
    let half : i / 2 < 32 = omega arith in
    elim (cases_lt (i % 2) 1) [
      | inl l ↦ let e : 2 * (i / 2) ≡ i = omega arith in subst P e (even (i / 2) half)
      | inr g ↦ let e : 2 * (i / 2) + 1 ≡ i = omega arith in subst P e (odd (i / 2) half)
    ]

-- key and point are inverse
pub key_of-point_of : (k : ℕ) → k < 2 ^ 64 → key_of (point_of k) ≡ k
key_of-point_of k fits =
    same_from_bits_below 64 (key_of (point_of k)) k (key_of-lt (point_of k)) fits
    (cases_place (λ i. bit_at (key_of (point_of k)) i ≡ bit_at k i)
    (λ i h. bit_at-key_of-y (point_of k) i h ∙ bit_at-point_of-y k i h)
    (λ i h. bit_at-key_of-x (point_of k) i h ∙ bit_at-point_of-x k i h))

pub point_of-key_of : (p : Point) → IsPoint p → point_of (key_of p) ≡ p
point_of-key_of p is =
    let x : even_bits (key_of p / 2) ≡ p.x =
    same_from_bits_below 32 (even_bits (key_of p / 2)) p.x (even_bits-lt (key_of p / 2)) is.x
    (λ i h. bit_at-point_of-x (key_of p) i h ∙ bit_at-key_of-x p i h) in
    let y : even_bits (key_of p) ≡ p.y =
    same_from_bits_below 32 (even_bits (key_of p)) p.y (even_bits-lt (key_of p)) is.y
    (λ i h. bit_at-point_of-y (key_of p) i h ∙ bit_at-key_of-y p i h) in
    λ i. record { x = x i; y = y i }
