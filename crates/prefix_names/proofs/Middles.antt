-- A name's region by halves.
use Rattle.std.proofs.Common.{◌≡◌, ℕ, suc, ◌+◌, ◌-◌, ◌*◌, ◌/◌, ◌%◌, ◌^◌, ◌<◌, ◌≤◌, Bool, true, false, List, [], ◌∷◌, ◌++◌, length, length-append, sym, ◌∙◌, ap, arith}
use Rattle.std.proofs.lemmas.Nat.{pow_pos}
use Rattle.std.proofs.Math.Nat.{pow-succ'}
use Rattle.zorder.specs.declared.points.Point.{Point}
use Rattle.zorder.specs.Key.{point_of}
use Rattle.zorder.proofs.Tiles.{first_left, first_right}
use Rattle.prefix_names.specs.Regions.{region_of}
use Rattle.prefix_names.proofs.Corners.{x-ends, y-ends}

twice : (m n : ℕ) → m ≡ suc n → 2 ^ m ≡ 2 * 2 ^ n
twice m n e = ap (λ k. 2 ^ k) e ∙ pow-succ' 2 n

module _ (name : List Bool) (room : length name < 64) where
  -- a child has one open bit less
  left : (b : Bool) → 64 - length (name ++ b ∷ []) ≡ 63 - length name
  left b = omega (arith, length-append name (b ∷ []))

  short : (b : Bool) → length (name ++ b ∷ []) ≤ 64
  short b = omega (arith, length-append name (b ∷ []), room)

  pub lo-zero : (region_of (name ++ false ∷ [])).lo ≡ (region_of name).lo
  lo-zero = ap point_of (first_left name (omega (arith, room)))

  pub hi-one : (region_of (name ++ true ∷ [])).hi ≡ (region_of name).hi
  hi-one =
      let half : 2 ^ (64 - length (name ++ true ∷ [])) ≡ 2 ^ (63 - length name) = ap (λ n. 2 ^ n) (left true) in
      let double : 2 ^ (64 - length name) ≡ 2 * 2 ^ (63 - length name) = twice (64 - length name) (63 - length name) (omega (arith, room)) in
      ap (λ n. point_of (n - 1)) (omega (arith, first_right name (omega (arith, room)), half, double))

  -- each child ends and begins where the middle of its axis is
  pub x-cut : length name % 2 ≡ 0 → (region_of (name ++ false ∷ [])).hi.x ≡ (region_of name).lo.x + ((region_of name).hi.x - (region_of name).lo.x) / 2
  x-cut even =
      let ends : (region_of (name ++ false ∷ [])).hi.x ≡ (region_of (name ++ false ∷ [])).lo.x + (2 ^ ((64 - length (name ++ false ∷ [])) / 2) - 1) = x-ends (name ++ false ∷ []) (short false) in
      let all : (region_of name).hi.x ≡ (region_of name).lo.x + (2 ^ ((64 - length name) / 2) - 1) = x-ends name (omega (arith, room)) in
      let half : 2 ^ ((64 - length (name ++ false ∷ [])) / 2) ≡ 2 ^ ((63 - length name) / 2) = ap (λ n. 2 ^ (n / 2)) (left false) in
      let double : 2 ^ ((64 - length name) / 2) ≡ 2 * 2 ^ ((63 - length name) / 2) = twice ((64 - length name) / 2) ((63 - length name) / 2) (omega (arith, even, room)) in
      let same : (region_of (name ++ false ∷ [])).lo.x ≡ (region_of name).lo.x = ap (λ (p : Point). p.x) lo-zero in
      omega (arith, ends, all, half, double, same, pow_pos ((63 - length name) / 2))

  pub x-begin : length name % 2 ≡ 0 → (region_of (name ++ true ∷ [])).lo.x ≡ (region_of name).lo.x + ((region_of name).hi.x - (region_of name).lo.x) / 2 + 1
  x-begin even =
      let ends : (region_of (name ++ true ∷ [])).hi.x ≡ (region_of (name ++ true ∷ [])).lo.x + (2 ^ ((64 - length (name ++ true ∷ [])) / 2) - 1) = x-ends (name ++ true ∷ []) (short true) in
      let all : (region_of name).hi.x ≡ (region_of name).lo.x + (2 ^ ((64 - length name) / 2) - 1) = x-ends name (omega (arith, room)) in
      let half : 2 ^ ((64 - length (name ++ true ∷ [])) / 2) ≡ 2 ^ ((63 - length name) / 2) = ap (λ n. 2 ^ (n / 2)) (left true) in
      let double : 2 ^ ((64 - length name) / 2) ≡ 2 * 2 ^ ((63 - length name) / 2) = twice ((64 - length name) / 2) ((63 - length name) / 2) (omega (arith, even, room)) in
      let same : (region_of (name ++ true ∷ [])).hi.x ≡ (region_of name).hi.x = ap (λ (p : Point). p.x) hi-one in
      omega (arith, ends, all, half, double, same, pow_pos ((63 - length name) / 2))

  pub x-wide : length name % 2 ≡ 0 → (region_of name).lo.x < (region_of name).hi.x
  x-wide even =
      let all : (region_of name).hi.x ≡ (region_of name).lo.x + (2 ^ ((64 - length name) / 2) - 1) = x-ends name (omega (arith, room)) in
      let double : 2 ^ ((64 - length name) / 2) ≡ 2 * 2 ^ ((63 - length name) / 2) = twice ((64 - length name) / 2) ((63 - length name) / 2) (omega (arith, even, room)) in
      omega (arith, all, double, pow_pos ((63 - length name) / 2))

  -- the other axis stays whole
  pub y-same-end : length name % 2 ≡ 0 → (region_of (name ++ false ∷ [])).hi.y ≡ (region_of name).hi.y
  y-same-end even =
      let ends : (region_of (name ++ false ∷ [])).hi.y ≡ (region_of (name ++ false ∷ [])).lo.y + (2 ^ ((64 - length (name ++ false ∷ []) + 1) / 2) - 1) = y-ends (name ++ false ∷ []) (short false) in
      let all : (region_of name).hi.y ≡ (region_of name).lo.y + (2 ^ ((64 - length name + 1) / 2) - 1) = y-ends name (omega (arith, room)) in
      let half : 2 ^ ((64 - length (name ++ false ∷ []) + 1) / 2) ≡ 2 ^ ((64 - length name + 1) / 2) = ap (λ n. 2 ^ n) (omega (arith, left false, even, room)) in
      let same : (region_of (name ++ false ∷ [])).lo.y ≡ (region_of name).lo.y = ap (λ (p : Point). p.y) lo-zero in
      omega (arith, ends, all, half, same)

  pub y-same-begin : length name % 2 ≡ 0 → (region_of (name ++ true ∷ [])).lo.y ≡ (region_of name).lo.y
  y-same-begin even =
      let ends : (region_of (name ++ true ∷ [])).hi.y ≡ (region_of (name ++ true ∷ [])).lo.y + (2 ^ ((64 - length (name ++ true ∷ []) + 1) / 2) - 1) = y-ends (name ++ true ∷ []) (short true) in
      let all : (region_of name).hi.y ≡ (region_of name).lo.y + (2 ^ ((64 - length name + 1) / 2) - 1) = y-ends name (omega (arith, room)) in
      let half : 2 ^ ((64 - length (name ++ true ∷ []) + 1) / 2) ≡ 2 ^ ((64 - length name + 1) / 2) = ap (λ n. 2 ^ n) (omega (arith, left true, even, room)) in
      let same : (region_of (name ++ true ∷ [])).hi.y ≡ (region_of name).hi.y = ap (λ (p : Point). p.y) hi-one in
      omega (arith, ends, all, half, same)

  -- the same where y is cut
  pub y-cut : length name % 2 ≡ 1 → (region_of (name ++ false ∷ [])).hi.y ≡ (region_of name).lo.y + ((region_of name).hi.y - (region_of name).lo.y) / 2
  y-cut odd =
      let ends : (region_of (name ++ false ∷ [])).hi.y ≡ (region_of (name ++ false ∷ [])).lo.y + (2 ^ ((64 - length (name ++ false ∷ []) + 1) / 2) - 1) = y-ends (name ++ false ∷ []) (short false) in
      let all : (region_of name).hi.y ≡ (region_of name).lo.y + (2 ^ ((64 - length name + 1) / 2) - 1) = y-ends name (omega (arith, room)) in
      let half : 2 ^ ((64 - length (name ++ false ∷ []) + 1) / 2) ≡ 2 ^ ((63 - length name + 1) / 2) = ap (λ n. 2 ^ ((n + 1) / 2)) (left false) in
      let double : 2 ^ ((64 - length name + 1) / 2) ≡ 2 * 2 ^ ((63 - length name + 1) / 2) = twice ((64 - length name + 1) / 2) ((63 - length name + 1) / 2) (omega (arith, odd, room)) in
      let same : (region_of (name ++ false ∷ [])).lo.y ≡ (region_of name).lo.y = ap (λ (p : Point). p.y) lo-zero in
      omega (arith, ends, all, half, double, same, pow_pos ((63 - length name + 1) / 2))

  pub y-begin : length name % 2 ≡ 1 → (region_of (name ++ true ∷ [])).lo.y ≡ (region_of name).lo.y + ((region_of name).hi.y - (region_of name).lo.y) / 2 + 1
  y-begin odd =
      let ends : (region_of (name ++ true ∷ [])).hi.y ≡ (region_of (name ++ true ∷ [])).lo.y + (2 ^ ((64 - length (name ++ true ∷ []) + 1) / 2) - 1) = y-ends (name ++ true ∷ []) (short true) in
      let all : (region_of name).hi.y ≡ (region_of name).lo.y + (2 ^ ((64 - length name + 1) / 2) - 1) = y-ends name (omega (arith, room)) in
      let half : 2 ^ ((64 - length (name ++ true ∷ []) + 1) / 2) ≡ 2 ^ ((63 - length name + 1) / 2) = ap (λ n. 2 ^ ((n + 1) / 2)) (left true) in
      let double : 2 ^ ((64 - length name + 1) / 2) ≡ 2 * 2 ^ ((63 - length name + 1) / 2) = twice ((64 - length name + 1) / 2) ((63 - length name + 1) / 2) (omega (arith, odd, room)) in
      let same : (region_of (name ++ true ∷ [])).hi.y ≡ (region_of name).hi.y = ap (λ (p : Point). p.y) hi-one in
      omega (arith, ends, all, half, double, same, pow_pos ((63 - length name + 1) / 2))

  pub y-wide : length name % 2 ≡ 1 → (region_of name).lo.y < (region_of name).hi.y
  y-wide odd =
      let all : (region_of name).hi.y ≡ (region_of name).lo.y + (2 ^ ((64 - length name + 1) / 2) - 1) = y-ends name (omega (arith, room)) in
      let double : 2 ^ ((64 - length name + 1) / 2) ≡ 2 * 2 ^ ((63 - length name + 1) / 2) = twice ((64 - length name + 1) / 2) ((63 - length name + 1) / 2) (omega (arith, odd, room)) in
      omega (arith, all, double, pow_pos ((63 - length name + 1) / 2))

  pub x-same-end : length name % 2 ≡ 1 → (region_of (name ++ false ∷ [])).hi.x ≡ (region_of name).hi.x
  x-same-end odd =
      let ends : (region_of (name ++ false ∷ [])).hi.x ≡ (region_of (name ++ false ∷ [])).lo.x + (2 ^ ((64 - length (name ++ false ∷ [])) / 2) - 1) = x-ends (name ++ false ∷ []) (short false) in
      let all : (region_of name).hi.x ≡ (region_of name).lo.x + (2 ^ ((64 - length name) / 2) - 1) = x-ends name (omega (arith, room)) in
      let half : 2 ^ ((64 - length (name ++ false ∷ [])) / 2) ≡ 2 ^ ((64 - length name) / 2) = ap (λ n. 2 ^ n) (omega (arith, left false, odd, room)) in
      let same : (region_of (name ++ false ∷ [])).lo.x ≡ (region_of name).lo.x = ap (λ (p : Point). p.x) lo-zero in
      omega (arith, ends, all, half, same)

  pub x-same-begin : length name % 2 ≡ 1 → (region_of (name ++ true ∷ [])).lo.x ≡ (region_of name).lo.x
  x-same-begin odd =
      let ends : (region_of (name ++ true ∷ [])).hi.x ≡ (region_of (name ++ true ∷ [])).lo.x + (2 ^ ((64 - length (name ++ true ∷ [])) / 2) - 1) = x-ends (name ++ true ∷ []) (short true) in
      let all : (region_of name).hi.x ≡ (region_of name).lo.x + (2 ^ ((64 - length name) / 2) - 1) = x-ends name (omega (arith, room)) in
      let half : 2 ^ ((64 - length (name ++ true ∷ [])) / 2) ≡ 2 ^ ((64 - length name) / 2) = ap (λ n. 2 ^ n) (omega (arith, left true, odd, room)) in
      let same : (region_of (name ++ true ∷ [])).hi.x ≡ (region_of name).hi.x = ap (λ (p : Point). p.x) hi-one in
      omega (arith, ends, all, half, same)

  -- the regions of both children, by the region and its middle
  pub zero-x : (end : ℕ) → length name % 2 ≡ 0 → end ≡ (region_of name).lo.x + ((region_of name).hi.x - (region_of name).lo.x) / 2
      → record { lo = (region_of name).lo; hi = record { x = end; y = (region_of name).hi.y } } ≡ region_of (name ++ false ∷ [])
  zero-x end even is = λ i. record { lo = sym lo-zero i; hi = record { x = (is ∙ sym (x-cut even)) i; y = sym (y-same-end even) i } }

  pub one-x : (begin : ℕ) → length name % 2 ≡ 0 → begin ≡ (region_of name).lo.x + ((region_of name).hi.x - (region_of name).lo.x) / 2 + 1
      → record { lo = record { x = begin; y = (region_of name).lo.y }; hi = (region_of name).hi } ≡ region_of (name ++ true ∷ [])
  one-x begin even is = λ i. record { lo = record { x = (is ∙ sym (x-begin even)) i; y = sym (y-same-begin even) i }; hi = sym hi-one i }

  pub zero-y : (end : ℕ) → length name % 2 ≡ 1 → end ≡ (region_of name).lo.y + ((region_of name).hi.y - (region_of name).lo.y) / 2
      → record { lo = (region_of name).lo; hi = record { x = (region_of name).hi.x; y = end } } ≡ region_of (name ++ false ∷ [])
  zero-y end odd is = λ i. record { lo = sym lo-zero i; hi = record { x = sym (x-same-end odd) i; y = (is ∙ sym (y-cut odd)) i } }

  pub one-y : (begin : ℕ) → length name % 2 ≡ 1 → begin ≡ (region_of name).lo.y + ((region_of name).hi.y - (region_of name).lo.y) / 2 + 1
      → record { lo = record { x = (region_of name).lo.x; y = begin }; hi = (region_of name).hi } ≡ region_of (name ++ true ∷ [])
  one-y begin odd is = λ i. record { lo = record { x = sym (x-same-begin odd) i; y = (is ∙ sym (y-begin odd)) i }; hi = sym hi-one i }
