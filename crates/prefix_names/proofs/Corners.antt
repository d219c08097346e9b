-- A key is under a name exactly where its point is between the points of the name's first and last key.
use Rattle.std.proofs.Common.{◌≡◌, ℕ, ◌+◌, ◌-◌, ◌*◌, ◌/◌, ◌%◌, ◌^◌, ◌<◌, ◌≤◌, inl, inr, Bool, true, ◌&&◌, List, length, sym, ◌∙◌, ap, arith}
use Rattle.std.specs.Prelude.{nat_le, bit_or}
use Rattle.std.specs.Cmp.{both_ways}
use Rattle.std.proofs.Math.Nat.{mul-mod_left}
use Rattle.std.proofs.lemmas.Bool.{cases_lt, le-leb, leb-true}
use Rattle.std.proofs.lemmas.Nat.{pow_pos, shr_split, shr-shr, shr_high, mod_low, mod_below, or_shifted, div-mul-add}
use Rattle.std.proofs.lemmas.Nat.Bits.{bit_at_above, bit_at_cat_low, bit_at-zero, bit_at_ones, same_from_bits, same_from_bits_below}
use Rattle.std.specs.Cmp.{first_so, second_so}
use Rattle.std.specs.Cmp.Derive.{both_true}
use Rattle.std.specs.Int.{bit_at}
use Rattle.zorder.specs.declared.points.Point.{Point}
use Rattle.zorder.specs.Key.{key_of, even_bits, point_of, is_under, is_in, IsPoint}
use Rattle.zorder.specs.Name.{first_key}
use Rattle.zorder.specs.Region.{has_point, IsBox}
use Rattle.zorder.specs.Tile.{next_key}
use Rattle.zorder.proofs.Masks.{first_key-multiple, first_key-end, first_key-lt, low-none}
use Rattle.zorder.proofs.Ranges.{under-range, range-under}
use Rattle.zorder.proofs.Places.{key_of-lt, even_bits-lt, cases_place, bit_at-point_of-x, bit_at-point_of-y, key_of-point_of, point_of-key_of}
use Rattle.prefix_names.specs.Regions.{region_of}
use Rattle.prefix_names.proofs.HeldPoints.{held-so, so-held}

-- two numbers that agree from one place on
high-same : (a b s : ℕ) → a / 2 ^ s ≡ b / 2 ^ s → (i : ℕ) → s ≤ i → bit_at a i ≡ bit_at b i
high-same a b s e i le =
    let parts : s + (i - s) ≡ i = omega arith in
    let split : (n : ℕ) → n / 2 ^ s / 2 ^ (i - s) ≡ n / 2 ^ i = λ n. shr-shr n s (i - s) ∙ ap (λ k. n / 2 ^ k) parts in
    ap (λ n. n % 2) (sym (split a) ∙ ap (λ n. n / 2 ^ (i - s)) e ∙ split b)

same-high : (a b s : ℕ) → ((i : ℕ) → s ≤ i → bit_at a i ≡ bit_at b i) → a / 2 ^ s ≡ b / 2 ^ s
same-high a b s same =
    same_from_bits (a / 2 ^ s) (b / 2 ^ s)
    (λ j. ap (λ n. n % 2) (shr-shr a s j) ∙ same (s + j) (omega arith) ∙ ap (λ n. n % 2) (sym (shr-shr b s j)))

-- the lowest bits of a number
low-bit : (n s i : ℕ) → i < s → bit_at (n % 2 ^ s) i ≡ bit_at n i
low-bit n s i h = sym (ap (λ k. bit_at k i) (sym (shr_split n s)) ∙ bit_at_cat_low (n / 2 ^ s) s (n % 2 ^ s) i h)

low-zeros : (n s : ℕ) → ((i : ℕ) → i < s → bit_at n i ≡ 0) → n % 2 ^ s ≡ 0
low-zeros n s none =
    same_from_bits_below s (n % 2 ^ s) 0 (mod_below n (2 ^ s) (pow_pos s)) (pow_pos s) (λ i h. low-bit n s i h ∙ none i h ∙ sym (bit_at-zero i))

low-ones : (n s : ℕ) → ((i : ℕ) → i < s → bit_at n i ≡ 1) → n % 2 ^ s ≡ 2 ^ s - 1
low-ones n s all =
    same_from_bits_below s (n % 2 ^ s) (2 ^ s - 1) (mod_below n (2 ^ s) (pow_pos s)) (omega (arith, pow_pos s)) (λ i h. low-bit n s i h ∙ all i h ∙ sym (bit_at_ones s i h))

-- the coordinates of a key's point agree from half the place on at which the keys do
module _ (k l m : ℕ) where
  pub x-same : k / 2 ^ m ≡ l / 2 ^ m → even_bits (k / 2) / 2 ^ (m / 2) ≡ even_bits (l / 2) / 2 ^ (m / 2)
  x-same e =
      same-high (even_bits (k / 2)) (even_bits (l / 2)) (m / 2)
      (λ i h. elim (cases_lt i 32) [
        | inl low ↦ bit_at-point_of-x k i low ∙ high-same k l m e (2 * i + 1) (omega arith) ∙ sym (bit_at-point_of-x l i low)
        | inr high ↦ bit_at_above (even_bits (k / 2)) 32 i (even_bits-lt (k / 2)) high ∙ sym (bit_at_above (even_bits (l / 2)) 32 i (even_bits-lt (l / 2)) high)
      ])

  pub y-same : k / 2 ^ m ≡ l / 2 ^ m → even_bits k / 2 ^ ((m + 1) / 2) ≡ even_bits l / 2 ^ ((m + 1) / 2)
  y-same e =
      same-high (even_bits k) (even_bits l) ((m + 1) / 2)
      (λ i h. elim (cases_lt i 32) [
        | inl low ↦ bit_at-point_of-y k i low ∙ high-same k l m e (2 * i) (omega arith) ∙ sym (bit_at-point_of-y l i low)
        | inr high ↦ bit_at_above (even_bits k) 32 i (even_bits-lt k) high ∙ sym (bit_at_above (even_bits l) 32 i (even_bits-lt l) high)
      ])

  pub keys-same : k < 2 ^ 64 → l < 2 ^ 64 → even_bits (k / 2) / 2 ^ (m / 2) ≡ even_bits (l / 2) / 2 ^ (m / 2)
      → even_bits k / 2 ^ ((m + 1) / 2) ≡ even_bits l / 2 ^ ((m + 1) / 2) → k / 2 ^ m ≡ l / 2 ^ m
  keys-same hk hl x y =
      same-high k l m
      (λ i h. elim (cases_lt i 64) [
        | inl low ↦
            cases_place (λ j. m ≤ j → bit_at k j ≡ bit_at l j)
            (λ j small g. sym (bit_at-point_of-y k j small) ∙ high-same (even_bits k) (even_bits l) ((m + 1) / 2) y j (omega arith) ∙ bit_at-point_of-y l j small)
            (λ j small g. sym (bit_at-point_of-x k j small) ∙ high-same (even_bits (k / 2)) (even_bits (l / 2)) (m / 2) x j (omega arith) ∙ bit_at-point_of-x l j small)
            i low h
        | inr high ↦ bit_at_above k 64 i hk high ∙ sym (bit_at_above l 64 i hl high)
      ])

-- an interval whose ends agree from a place on, the lower with zeros behind it and the upper with ones
module _ (lo hi s n : ℕ) (zeros : lo % 2 ^ s ≡ 0) (ones : hi % 2 ^ s ≡ 2 ^ s - 1) (same : hi / 2 ^ s ≡ lo / 2 ^ s) where
  ends : hi ≡ lo + (2 ^ s - 1)
  ends = omega (arith, shr_split lo s, shr_split hi s, ap (λ q. q * 2 ^ s) same)

  pub between-same : lo ≤ n → n ≤ hi → n / 2 ^ s ≡ lo / 2 ^ s
  between-same from to =
      let parts : n ≡ lo / 2 ^ s * 2 ^ s + (n - lo) = omega (arith, shr_split lo s) in
      ap (λ k. k / 2 ^ s) parts ∙ div-mul-add (lo / 2 ^ s) (2 ^ s) (n - lo) (omega (arith, ends, pow_pos s))

  pub same-between : n / 2 ^ s ≡ lo / 2 ^ s → (lo ≤ n) × (n ≤ hi)
  same-between e =
      let whole : n / 2 ^ s * 2 ^ s ≡ lo / 2 ^ s * 2 ^ s = ap (λ q. q * 2 ^ s) e in
      let low : n % 2 ^ s < 2 ^ s = mod_below n (2 ^ s) (pow_pos s) in
      (omega (arith, whole, shr_split n s, shr_split lo s), omega (arith, whole, low, ends, shr_split n s, shr_split lo s))

module _ (name : List Bool) (short : length name ≤ 64) where
  -- how many bits the name leaves open
  abbrev open_bits : ℕ
  open_bits = 64 - length name

  -- the last key under the name
  abbrev last : ℕ
  last = next_key name - 1

  pub last-is : next_key name - 1 ≡ first_key name + (2 ^ (64 - length name) - 1)
  last-is = omega (arith, pow_pos (64 - length name))

  pub last-lt : next_key name - 1 < 2 ^ 64
  last-lt = omega (arith, last-is, first_key-end name short, pow_pos (64 - length name))

  first-zeros : first_key name % 2 ^ open_bits ≡ 0
  first-zeros =
      let (q, is) = first_key-multiple name short in
      ap (λ n. n % 2 ^ open_bits) is ∙ mul-mod_left q (2 ^ open_bits)

  last-parts : (q : ℕ) × (first_key name ≡ q * 2 ^ open_bits + 0) × (last ≡ q * 2 ^ open_bits + (2 ^ open_bits - 1))
  last-parts =
      let (q, is) = first_key-multiple name short in
      (q, omega (arith, is), omega (arith, is, last-is))

  last-ones : last % 2 ^ open_bits ≡ 2 ^ open_bits - 1
  last-ones =
      let (q, first, is) = last-parts in
      ap (λ n. n % 2 ^ open_bits) is ∙ mod_low q open_bits (2 ^ open_bits - 1) (omega (arith, pow_pos open_bits))

  last-same : last / 2 ^ open_bits ≡ first_key name / 2 ^ open_bits
  last-same =
      let (q, first, is) = last-parts in
      ap (λ n. n / 2 ^ open_bits) is ∙ shr_high q open_bits (2 ^ open_bits - 1) (omega (arith, pow_pos open_bits))
      ∙ sym (ap (λ n. n / 2 ^ open_bits) first ∙ shr_high q open_bits 0 (pow_pos open_bits))

  last-bit : (i : ℕ) → i < open_bits → bit_at last i ≡ 1
  last-bit i h = sym (low-bit last open_bits i h) ∙ ap (λ n. bit_at n i) last-ones ∙ bit_at_ones open_bits i h

  -- the corners' coordinates: zeros at the low ends of the lower, ones at those of the upper
  x-zeros : even_bits (first_key name / 2) % 2 ^ (open_bits / 2) ≡ 0
  x-zeros =
      low-zeros (even_bits (first_key name / 2)) (open_bits / 2)
      (λ i h. bit_at-point_of-x (first_key name) i (omega arith) ∙ low-none (first_key name) open_bits (2 * i + 1) first-zeros (omega arith))

  x-ones : even_bits (last / 2) % 2 ^ (open_bits / 2) ≡ 2 ^ (open_bits / 2) - 1
  x-ones = low-ones (even_bits (last / 2)) (open_bits / 2) (λ i h. bit_at-point_of-x last i (omega arith) ∙ last-bit (2 * i + 1) (omega arith))

  y-zeros : even_bits (first_key name) % 2 ^ ((open_bits + 1) / 2) ≡ 0
  y-zeros =
      low-zeros (even_bits (first_key name)) ((open_bits + 1) / 2)
      (λ i h. bit_at-point_of-y (first_key name) i (omega arith) ∙ low-none (first_key name) open_bits (2 * i) first-zeros (omega arith))

  y-ones : even_bits last % 2 ^ ((open_bits + 1) / 2) ≡ 2 ^ ((open_bits + 1) / 2) - 1
  y-ones = low-ones (even_bits last) ((open_bits + 1) / 2) (λ i h. bit_at-point_of-y last i (omega arith) ∙ last-bit (2 * i) (omega arith))

  -- a key under the name agrees with the first one where the name has its bits
  under-same : (k : ℕ) → k < 2 ^ 64 → is_under name k ≡ true → k / 2 ^ open_bits ≡ first_key name / 2 ^ open_bits
  under-same k fits e =
      let range = under-range name k short fits e in
      between-same (first_key name) last open_bits k first-zeros last-ones last-same range.0 (omega (arith, range.1))

  same-under : (k : ℕ) → k < 2 ^ 64 → k / 2 ^ open_bits ≡ first_key name / 2 ^ open_bits → is_under name k ≡ true
  same-under k fits e =
      let range = same-between (first_key name) last open_bits k first-zeros last-ones last-same e in
      range-under name k short fits range.0 (omega (arith, range.1, pow_pos open_bits))

  -- a key is between the first and the last exactly where it is under the name
  pub is_under-between : (lo hi k : ℕ) → lo ≡ first_key name → hi + 1 ≡ next_key name → k < 2 ^ 64 → is_under name k ≡ (nat_le lo k && nat_le k hi)
  is_under-between lo hi k first end fits =
      both_ways (is_under name k) (nat_le lo k && nat_le k hi)
      (λ e. let range = under-range name k short fits e in
      both_true (le-leb lo k (omega (arith, first, range.0))) (le-leb k hi (omega (arith, end, range.1))))
      (λ e. let from : lo ≤ k = leb-true lo k (first_so (nat_le lo k) (nat_le k hi) e) in
      let to : k ≤ hi = leb-true k hi (second_so (nat_le lo k) (nat_le k hi) e) in
      range-under name k short fits (omega (arith, first, from)) (omega (arith, end, to)))

  pub has_point-region_of : (p : Point) → IsPoint p → has_point (region_of name) p ≡ is_in name p
  has_point-region_of p is =
      let k : ℕ = key_of p in
      let back : point_of k ≡ p = point_of-key_of p is in
      let x : even_bits (k / 2) ≡ p.x = ap (λ q. q.x) back in
      let y : even_bits k ≡ p.y = ap (λ q. q.y) back in
      both_ways (has_point (region_of name) p) (is_in name p)
      (λ e. let held = so-held (region_of name) p e in
      let left : p.x / 2 ^ (open_bits / 2) ≡ even_bits (first_key name / 2) / 2 ^ (open_bits / 2) =
      between-same (even_bits (first_key name / 2)) (even_bits (last / 2)) (open_bits / 2) p.x x-zeros x-ones (x-same last (first_key name) open_bits last-same) held.left held.right in
      let low : p.y / 2 ^ ((open_bits + 1) / 2) ≡ even_bits (first_key name) / 2 ^ ((open_bits + 1) / 2) =
      between-same (even_bits (first_key name)) (even_bits last) ((open_bits + 1) / 2) p.y y-zeros y-ones (y-same last (first_key name) open_bits last-same) held.low held.high in
      same-under k (key_of-lt p)
      (keys-same k (first_key name) open_bits (key_of-lt p) (first_key-lt name short)
      (ap (λ n. n / 2 ^ (open_bits / 2)) x ∙ left) (ap (λ n. n / 2 ^ ((open_bits + 1) / 2)) y ∙ low)))
      (λ e. let same = under-same k (key_of-lt p) e in
      let across : p.x / 2 ^ (open_bits / 2) ≡ even_bits (first_key name / 2) / 2 ^ (open_bits / 2) =
      ap (λ n. n / 2 ^ (open_bits / 2)) (sym x) ∙ x-same k (first_key name) open_bits same in
      let up : p.y / 2 ^ ((open_bits + 1) / 2) ≡ even_bits (first_key name) / 2 ^ ((open_bits + 1) / 2) =
      ap (λ n. n / 2 ^ ((open_bits + 1) / 2)) (sym y) ∙ y-same k (first_key name) open_bits same in
      let h = same-between (even_bits (first_key name / 2)) (even_bits (last / 2)) (open_bits / 2) p.x x-zeros x-ones (x-same last (first_key name) open_bits last-same) across in
      let v = same-between (even_bits (first_key name)) (even_bits last) ((open_bits + 1) / 2) p.y y-zeros y-ones (y-same last (first_key name) open_bits last-same) up in
      held-so (region_of name) p (record { left = h.0; right = h.1; low = v.0; high = v.1 }))

  -- how far the corners are apart on each axis
  pub x-ends : even_bits ((next_key name - 1) / 2) ≡ even_bits (first_key name / 2) + (2 ^ ((64 - length name) / 2) - 1)
  x-ends = ends (even_bits (first_key name / 2)) (even_bits (last / 2)) (open_bits / 2) 0 x-zeros x-ones (x-same last (first_key name) open_bits last-same)

  pub y-ends : even_bits (next_key name - 1) ≡ even_bits (first_key name) + (2 ^ ((64 - length name + 1) / 2) - 1)
  y-ends = ends (even_bits (first_key name)) (even_bits last) ((open_bits + 1) / 2) 0 y-zeros y-ones (y-same last (first_key name) open_bits last-same)

  -- the lower corner is no greater than the upper
  pub IsBox-region_of : IsBox (region_of name)
  IsBox-region_of =
      record { x = omega (arith, x-ends); y = omega (arith, y-ends) }

  pub key_of-first : key_of (point_of (first_key name)) ≡ first_key name
  key_of-first = key_of-point_of (first_key name) (first_key-lt name short)

  pub key_of-last : key_of (point_of (next_key name - 1)) + 1 ≡ next_key name
  key_of-last = ap (λ n. n + 1) (key_of-point_of (next_key name - 1) last-lt) ∙ (omega (arith, pow_pos (64 - length name)))

  -- the last key by the mask of the open bits
  pub last-mask : bit_or (first_key name) (2 ^ (64 - length name) - 1) + 1 ≡ next_key name
  last-mask =
      let (q, is) = first_key-multiple name short in
      let ones : 2 ^ (64 - length name) - 1 < 2 ^ (64 - length name) = omega (arith, pow_pos (64 - length name)) in
      ap (λ n. bit_or n (2 ^ (64 - length name) - 1) + 1) is ∙ ap (λ n. n + 1) (or_shifted q (64 - length name) (2 ^ (64 - length name) - 1) ones)
      ∙ (omega (arith, is, pow_pos (64 - length name)))
