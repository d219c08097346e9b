-- One half of a region is as near as the whole.
use Rattle.std.proofs.Common.{◌≡◌, ℕ, ◌+◌, ◌-◌, ◌/◌, ◌%◌, ◌<◌, ◌≤◌, ◌⊎◌, Bool, true, false, List, [], ◌∷◌, ◌++◌, length, inl, inr, refl, ap, arith}
use Rattle.std.specs.Prelude.{nat_le}
use Rattle.std.proofs.lemmas.Bool.{leb-true, leb-false}
use Rattle.zorder.specs.declared.points.Point.{Point}
use Rattle.zorder.specs.declared.points.Region.{Region}
use Rattle.zorder.specs.Region.{IsBox}
use Rattle.zorder.specs.Distance.{distance, least_distance}
use Rattle.prefix_names.specs.Regions.{region_of}
use Rattle.prefix_names.proofs.Corners.{IsBox-region_of}
use Rattle.prefix_names.proofs.HeldPoints.{IsHeld, held-so, so-held}
use Rattle.prefix_names.proofs.Nearest.{nearest, nearest-held, distance-nearest, least_distance-le}
use Rattle.prefix_names.proofs.Middles.{zero-x, one-x, zero-y, one-y}
use Rattle.knn_query.specs.Ahead.{least_to, IsAhead}
use Rattle.knn_query.specs.Waiting.{waiting_at, IsOrder}
use Rattle.knn_query.specs.declared.ahead.Ahead.{Ahead}
use Rattle.knn_query.specs.declared.ahead.Waiting.{Waiting}

module _ (p : Point) (name : List Bool) (room : length name < 64) where
  abbrev whole : Region
  whole = region_of name

  abbrev closest : Point
  closest = nearest whole p

  is_box : IsBox whole
  is_box = IsBox-region_of name (omega (arith, room))

  held : IsHeld whole closest
  held = so-held whole closest (nearest-held whole p is_box)

  -- the half that has the nearest point of the whole
  by_point : (b : Bool) (half : Region) → half ≡ region_of (name ++ b ∷ []) → IsHeld half closest → least_to p (name ++ b ∷ []) ≤ least_to p name
  by_point b half is inside =
      let near : least_distance half p ≤ distance closest p = least_distance-le half p closest (held-so half closest inside) in
      let same : least_distance half p ≡ least_to p (name ++ b ∷ []) = ap (λ (r : Region). least_distance r p) is in
      omega (arith, near, same, distance-nearest whole p is_box)

  abbrev Either : Type 0
  Either = (least_to p (name ++ false ∷ []) ≤ least_to p name) ⊎ (least_to p (name ++ true ∷ []) ≤ least_to p name)

  by_x : length name % 2 ≡ 0 → Either
  by_x even = by_test (nat_le closest.x end) refl
    where
      end : ℕ
      end = whole.lo.x + (whole.hi.x - whole.lo.x) / 2

      by_test : (b : Bool) → nat_le closest.x end ≡ b → Either
      by_test true e =
          inl (by_point false (record { lo = whole.lo; hi = record { x = end; y = whole.hi.y } }) (zero-x name room end even refl)
          (record { left = held.left; right = leb-true closest.x end e; low = held.low; high = held.high }))
      by_test false e =
          inr (by_point true (record { lo = record { x = end + 1; y = whole.lo.y }; hi = whole.hi }) (one-x name room (end + 1) even refl)
          (record { left = omega (arith, leb-false closest.x end e); right = held.right; low = held.low; high = held.high }))

  by_y : length name % 2 ≡ 1 → Either
  by_y odd = by_test (nat_le closest.y end) refl
    where
      end : ℕ
      end = whole.lo.y + (whole.hi.y - whole.lo.y) / 2

      by_test : (b : Bool) → nat_le closest.y end ≡ b → Either
      by_test true e =
          inl (by_point false (record { lo = whole.lo; hi = record { x = whole.hi.x; y = end } }) (zero-y name room end odd refl)
          (record { left = held.left; right = held.right; low = held.low; high = leb-true closest.y end e }))
      by_test false e =
          inr (by_point true (record { lo = record { x = whole.lo.x; y = end + 1 }; hi = whole.hi }) (one-y name room (end + 1) odd refl)
          (record { left = held.left; right = held.right; low = omega (arith, leb-false closest.y end e); high = held.high }))

  pub half-as_near : Either
  half-as_near = by_test (nat_le (length name % 2) 0) refl
    where
      by_test : (b : Bool) → nat_le (length name % 2) 0 ≡ b → Either
      by_test true e = by_x (omega (arith, leb-true (length name % 2) 0 e))
      by_test false e = by_y (omega (arith, leb-false (length name % 2) 0 e))

-- the nearer half is as near
pub near-as_near : {P : Type 0} (p : Point) (a fore hind : Ahead) (zero one : P) (near far : Waiting P) → length a.name < 64 → IsAhead p a → fore.name ≡ a.name ++ false ∷ [] → hind.name ≡ a.name ++ true ∷ []
    → IsAhead p fore → IsAhead p hind → IsOrder (waiting_at fore zero) (waiting_at hind one) near far → near.ahead.least.0 ≤ a.least.0
near-as_near {P} p a fore hind zero one near far room is fore_name hind_name fore_is hind_is order =
    elim (half-as_near p a.name room) [
      | inl le ↦ omega (arith, no_farther.0, le, fore_is.least_is, ap (least_to p) fore_name, is.least_is)
      | inr le ↦ omega (arith, no_farther.1, le, hind_is.least_is, ap (least_to p) hind_name, is.least_is)
    ]
  where
    no_farther : (near.ahead.least.0 ≤ fore.least.0) × (near.ahead.least.0 ≤ hind.least.0)
    no_farther =
        elim order.either [
          | inl e ↦ (
            omega (arith, ap (λ (w : Waiting P). w.ahead.least.0) e.0),
            omega (arith, order.low, ap (λ (w : Waiting P). w.ahead.least.0) e.1),
          )
          | inr e ↦ (
            omega (arith, order.low, ap (λ (w : Waiting P). w.ahead.least.0) e.1),
            omega (arith, ap (λ (w : Waiting P). w.ahead.least.0) e.0),
          )
        ]
