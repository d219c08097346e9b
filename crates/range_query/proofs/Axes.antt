-- Rows of a leaf that are in a box, by the bits of one axis.
use Rattle.std.proofs.Common.{◌≡◌, ℕ, ◌+◌, ◌*◌, ◌/◌, ◌^◌, ◌<◌, ◌≤◌, Bool, true, false, cond, List, [], ◌∷◌, length, refl, sym, ap, subst, ◌∙◌, arith}
use Rattle.std.specs.Prelude.{◌&&◌, nat_le, bit_and}
use Rattle.std.specs.Int.{bit_at}
use Rattle.std.specs.List.{filter}
use Rattle.std.specs.Cmp.Derive.{both_true}
use Rattle.std.proofs.lemmas.Bool.{le-leb, leb-true, false_from_ne_true}
use mathlib.Core.Bool.{true≢false}
use Rattle.std.proofs.lemmas.Bool.Decides.{nat_tests}
use Rattle.std.proofs.lemmas.Nat.{and_le_l}
use Rattle.std.proofs.lemmas.Nat.Bits.{bit_at_and, bit_at-lt, bit_at-zero, bit_at_ones, same_from_bits_below}
use Rattle.zorder.specs.declared.points.Point.{Point}
use Rattle.zorder.specs.declared.points.Region.{Region}
use Rattle.zorder.specs.Key.{IsPoint, key_of, even_bits, point_of, is_under}
use Rattle.zorder.specs.Region.{has_point}
use Rattle.zorder.specs.Spread.{spread_bits}
use Rattle.zorder.proofs.Places.{even_bits-lt, key_of-lt, key_of-point_of, IsPoint-point_of, cases_place, bit_at-key_of-x, bit_at-key_of-y, bit_at-point_of-x}
use Rattle.zorder.proofs.Steps.{key_of-spread}
use Rattle.prefix_names.proofs.HeldPoints.{so-held}
use Rattle.prefix_names.proofs.KeyBits.{masked, spread-order}
use Rattle.bucket_versions.specs.declared.row.Row.{Row}
use Rattle.table_share.specs.KeysUnder.{AreKeysUnder}
use Rattle.range_query.specs.Cut.{IsAreaOf, number_in}
use Rattle.range_query.specs.Masks.{number_masked}
use Rattle.range_query.proofs.BoxCounts.{length_if, number_in-cons}
use Rattle.range_query.proofs.Reaches.{area-points}

-- the points on both axes
abbrev pub beside : ℕ → Point
beside x = record { x = x; y = 0 }

abbrev pub above : ℕ → Point
above y = record { x = 0; y = y }

-- the mask of x is the key of a point, whose bits are known
mask-key : key_of (beside 0xFFFFFFFF) ≡ 0xAAAAAAAAAAAAAAAA
unfolding key_of
mask-key = refl

mask-odd : (i : ℕ) → i < 32 → bit_at 0xAAAAAAAAAAAAAAAA (2 * i + 1) ≡ 1
mask-odd i h = ap (λ n. bit_at n (2 * i + 1)) (sym mask-key) ∙ bit_at-key_of-x (beside 0xFFFFFFFF) i h ∙ bit_at_ones 32 i h

mask-even : (i : ℕ) → i < 32 → bit_at 0xAAAAAAAAAAAAAAAA (2 * i) ≡ 0
mask-even i h = ap (λ n. bit_at n (2 * i)) (sym mask-key) ∙ bit_at-key_of-y (beside 0xFFFFFFFF) i h ∙ bit_at-zero i

masked-odd : (k i : ℕ) → i < 32 → bit_at (bit_and k 0xAAAAAAAAAAAAAAAA) (2 * i + 1) ≡ bit_at k (2 * i + 1)
masked-odd k i h = omega (arith, bit_at_and k 0xAAAAAAAAAAAAAAAA (2 * i + 1), mask-odd i h, bit_at-lt k (2 * i + 1))

masked-even : (k i : ℕ) → i < 32 → bit_at (bit_and k 0xAAAAAAAAAAAAAAAA) (2 * i) ≡ 0
masked-even k i h = omega (arith, bit_at_and k 0xAAAAAAAAAAAAAAAA (2 * i), mask-even i h)

-- what each mask leaves of a key
masked-x : (k : ℕ) → k < 2 ^ 64 → bit_and k 0xAAAAAAAAAAAAAAAA ≡ key_of (beside (even_bits (k / 2)))
masked-x k fits =
    same_from_bits_below 64 (bit_and k 0xAAAAAAAAAAAAAAAA) (key_of (beside (even_bits (k / 2)))) (omega (arith, and_le_l k 0xAAAAAAAAAAAAAAAA)) (key_of-lt (beside (even_bits (k / 2))))
    (cases_place (λ i. bit_at (bit_and k 0xAAAAAAAAAAAAAAAA) i ≡ bit_at (key_of (beside (even_bits (k / 2)))) i)
    (λ i h. masked-even k i h ∙ sym (bit_at-key_of-y (beside (even_bits (k / 2))) i h ∙ bit_at-zero i))
    (λ i h. masked-odd k i h ∙ sym (bit_at-key_of-x (beside (even_bits (k / 2))) i h ∙ bit_at-point_of-x k i h)))

spread-none : spread_bits 0 ≡ 0
unfolding spread_bits
spread-none = refl

masked-y : (k : ℕ) → k < 2 ^ 64 → bit_and k 0x5555555555555555 ≡ key_of (above (even_bits k))
masked-y k fits = omega (arith, masked k fits, key_of-spread (above (even_bits k)), spread-none)

-- such numbers have the order of the coordinates
doubled : (a b : ℕ) → nat_le (2 * a) (2 * b) ≡ nat_le a b
doubled a b = grind (arith, nat_tests)

x-order : (a b : ℕ) → a < 2 ^ 32 → b < 2 ^ 32 → nat_le (key_of (beside a)) (key_of (beside b)) ≡ nat_le a b
x-order a b fits_a fits_b =
    let x : (n : ℕ) → key_of (beside n) ≡ 2 * spread_bits n = λ n. omega (arith, key_of-spread (beside n), spread-none) in
    (λ i. nat_le (x a i) (x b i)) ∙ doubled (spread_bits a) (spread_bits b) ∙ spread-order a b fits_a fits_b

y-order : (a b : ℕ) → a < 2 ^ 32 → b < 2 ^ 32 → nat_le (key_of (above a)) (key_of (above b)) ≡ nat_le a b
y-order a b fits_a fits_b =
    let y : (n : ℕ) → key_of (above n) ≡ spread_bits n = λ n. omega (arith, key_of-spread (above n), spread-none) in
    (λ i. nat_le (y a i) (y b i)) ∙ spread-order a b fits_a fits_b

-- a key rises with both coordinates
key_of-rise : (p q : Point) → IsPoint p → IsPoint q → p.x ≤ q.x → p.y ≤ q.y → key_of p ≤ key_of q
key_of-rise p q is_p is_q x y =
    omega (
      arith,
      key_of-spread p,
      key_of-spread q,
      leb-true (spread_bits p.x) (spread_bits q.x) (spread-order p.x q.x is_p.x is_q.x ∙ le-leb p.x q.x x),
      leb-true (spread_bits p.y) (spread_bits q.y) (spread-order p.y q.y is_p.y is_q.y ∙ le-leb p.y q.y y),
    )

drop_last : (a b c d : Bool) → c ≡ true → d ≡ true → (a && b) ≡ (a && b && c && d)
drop_last true true c d hc hd = sym (both_true hc hd)
drop_last true false c d hc hd = refl
drop_last false b c d hc hd = refl

drop_first : (a b c d : Bool) → a ≡ true → b ≡ true → (c && d) ≡ (a && b && c && d)
drop_first a b c d ha hb = sym (λ i. ha i && hb i && c && d)

-- a test that another one implies may be left out
implied : (a b : Bool) → (b ≡ true → a ≡ true) → (a && b) ≡ b
implied true b h = refl
implied false true h = h refl
implied false false h = refl

-- the keys of a box's points are between the keys of its corners, which are `from` and `to`
module _ (region : Region) (from to : ℕ) (from_key : from ≡ key_of region.lo) (from_back : point_of from ≡ region.lo) (to_key : to ≡ key_of region.hi) (to_back : point_of to ≡ region.hi) where
  lo_is : IsPoint region.lo
  lo_is = subst IsPoint from_back (IsPoint-point_of from)

  hi_is : IsPoint region.hi
  hi_is = subst IsPoint to_back (IsPoint-point_of to)

  from_fits : from < 2 ^ 64
  from_fits = omega (arith, from_key, key_of-lt region.lo)

  to_fits : to < 2 ^ 64
  to_fits = omega (arith, to_key, key_of-lt region.hi)

  between_keys : (k : ℕ) → k < 2 ^ 64 → has_point region (point_of k) ≡ true → (from ≤ k) × (k ≤ to)
  between_keys k fits there =
      let held = so-held region (point_of k) there in
      let is : IsPoint (point_of k) = IsPoint-point_of k in
      let back : key_of (point_of k) ≡ k = key_of-point_of k fits in (
        omega (arith, from_key, back, key_of-rise region.lo (point_of k) lo_is is held.left held.low),
        omega (arith, to_key, back, key_of-rise (point_of k) region.hi is hi_is held.right held.high),
      )

  from_x : bit_and from 0xAAAAAAAAAAAAAAAA ≡ key_of (beside region.lo.x)
  from_x = masked-x from from_fits ∙ ap (λ (p : Point). key_of (beside p.x)) from_back

  to_x : bit_and to 0xAAAAAAAAAAAAAAAA ≡ key_of (beside region.hi.x)
  to_x = masked-x to to_fits ∙ ap (λ (p : Point). key_of (beside p.x)) to_back

  from_y : bit_and from 0x5555555555555555 ≡ key_of (above region.lo.y)
  from_y = masked-y from from_fits ∙ ap (λ (p : Point). key_of (above p.y)) from_back

  to_y : bit_and to 0x5555555555555555 ≡ key_of (above region.hi.y)
  to_y = masked-y to to_fits ∙ ap (λ (p : Point). key_of (above p.y)) to_back

  pub x-first : region.lo.x ≤ region.hi.x → bit_and from 0xAAAAAAAAAAAAAAAA ≤ bit_and to 0xAAAAAAAAAAAAAAAA
  x-first less =
      omega (
        arith,
        from_x,
        to_x,
        leb-true (key_of (beside region.lo.x)) (key_of (beside region.hi.x)) (x-order region.lo.x region.hi.x lo_is.x hi_is.x ∙ le-leb region.lo.x region.hi.x less),
      )

  pub y-first : region.lo.y ≤ region.hi.y → bit_and from 0x5555555555555555 ≤ bit_and to 0x5555555555555555
  y-first less =
      omega (
        arith,
        from_y,
        to_y,
        leb-true (key_of (above region.lo.y)) (key_of (above region.hi.y)) (y-order region.lo.y region.hi.y lo_is.y hi_is.y ∙ le-leb region.lo.y region.hi.y less),
      )

  -- rows below the first key aren't in the box
  pub number_in-later : (rows : List Row) → (name : List Bool) → AreKeysUnder name rows → number_in region (filter (λ (r : Row). nat_le from r.key) rows) ≡ number_in region rows
  number_in-later [] name under = refl
  number_in-later (r ∷ rows) name under = by_test (nat_le from r.key) refl (number_in-later rows name under.1)
    where
      by_test : (b : Bool) → nat_le from r.key ≡ b → number_in region (filter (λ (s : Row). nat_le from s.key) rows) ≡ number_in region rows
          → number_in region (cond b (r ∷ filter (λ (s : Row). nat_le from s.key) rows) (filter (λ (s : Row). nat_le from s.key) rows)) ≡ number_in region (r ∷ rows)
      by_test true e rest = omega (arith, rest, number_in-cons region r (filter (λ (s : Row). nat_le from s.key) rows), number_in-cons region r rows)
      by_test false e rest =
          let out : has_point region (point_of r.key) ≡ false =
          false_from_ne_true (has_point region (point_of r.key)) (λ there. true≢false (sym (le-leb from r.key (between_keys r.key under.0.0 there).0) ∙ e)) in
          let none : cond (has_point region (point_of r.key)) 1 0 ≡ 0 = ap {B = ℕ} (λ b. cond b 1 0) out in
          omega (arith, rest, none, number_in-cons region r rows)

  module _ (area : Region) (name : List Bool) (of : IsAreaOf name area) where
    -- a test that tells of each point of the area whether it is in the box counts the rows that are
    told : (test : ℕ → Bool) → ((k : ℕ) → k < 2 ^ 64 → has_point area (point_of k) ≡ true → test k ≡ has_point region (point_of k)) → (rows : List Row) → AreKeysUnder name rows
        → length (filter (λ (r : Row). nat_le r.key to && test r.key) rows) ≡ number_in region rows
    told test tells [] under = refl
    told test tells (r ∷ rows) under =
        let there : has_point area (point_of r.key) ≡ true = area-points name area of (point_of r.key) (IsPoint-point_of r.key) ∙ ap (is_under name) (key_of-point_of r.key under.0.0) ∙ under.0.1 in
        let is : test r.key ≡ has_point region (point_of r.key) = tells r.key under.0.0 there in
        let low : test r.key ≡ true → nat_le r.key to ≡ true = λ e. le-leb r.key to (between_keys r.key under.0.0 (sym is ∙ e)).1 in
        let same : cond (nat_le r.key to && test r.key) 1 0 ≡ cond (has_point region (point_of r.key)) 1 0 = ap {B = ℕ} (λ b. cond b 1 0) (implied (nat_le r.key to) (test r.key) low ∙ is) in
        omega (
          arith,
          length_if (nat_le r.key to && test r.key) r (filter (λ (s : Row). nat_le s.key to && test s.key) rows),
          number_in-cons region r rows,
          same,
          told test tells rows under.1,
        )

    -- where the area is within the box on the other axis
    pub told-x : region.lo.y ≤ area.lo.y → area.hi.y ≤ region.hi.y → (rows : List Row) → AreKeysUnder name rows → number_masked 0xAAAAAAAAAAAAAAAA from to rows ≡ number_in region rows
    told-x low high =
        told (λ k. nat_le (bit_and from 0xAAAAAAAAAAAAAAAA) (bit_and k 0xAAAAAAAAAAAAAAAA) && nat_le (bit_and k 0xAAAAAAAAAAAAAAAA) (bit_and to 0xAAAAAAAAAAAAAAAA))
        (λ k fits there.
        let held = so-held area (point_of k) there in
        let x : ℕ = even_bits (k / 2) in
        let y : ℕ = even_bits k in
        (λ i. nat_le (from_x i) (masked-x k fits i) && nat_le (masked-x k fits i) (to_x i))
        ∙ (λ i. x-order region.lo.x x lo_is.x (even_bits-lt (k / 2)) i && x-order x region.hi.x (even_bits-lt (k / 2)) hi_is.x i)
        ∙ drop_last (nat_le region.lo.x x) (nat_le x region.hi.x) (nat_le region.lo.y y) (nat_le y region.hi.y) (le-leb region.lo.y y (omega (arith, low, held.low))) (le-leb y region.hi.y (omega (arith, high, held.high))))

    pub told-y : region.lo.x ≤ area.lo.x → area.hi.x ≤ region.hi.x → (rows : List Row) → AreKeysUnder name rows → number_masked 0x5555555555555555 from to rows ≡ number_in region rows
    told-y left right =
        told (λ k. nat_le (bit_and from 0x5555555555555555) (bit_and k 0x5555555555555555) && nat_le (bit_and k 0x5555555555555555) (bit_and to 0x5555555555555555))
        (λ k fits there.
        let held = so-held area (point_of k) there in
        let x : ℕ = even_bits (k / 2) in
        let y : ℕ = even_bits k in
        (λ i. nat_le (from_y i) (masked-y k fits i) && nat_le (masked-y k fits i) (to_y i))
        ∙ (λ i. y-order region.lo.y y lo_is.y (even_bits-lt k) i && y-order y region.hi.y (even_bits-lt k) hi_is.y i)
        ∙ drop_first (nat_le region.lo.x x) (nat_le x region.hi.x) (nat_le region.lo.y y) (nat_le y region.hi.y) (le-leb region.lo.x x (omega (arith, left, held.left))) (le-leb x region.hi.x (omega (arith, right, held.right))))
