-- The least squared distance is that of one point of the region, and no point of it is nearer.
use Rattle.std.proofs.Common.{◌≡◌, ℕ, ◌+◌, ◌*◌, ◌≤◌, min, max, arith}
use Rattle.std.specs.Prelude.{IsTrue}
use Rattle.std.proofs.lemmas.Nat.{mul-le}
use Rattle.zorder.specs.declared.points.Point.{Point}
use Rattle.zorder.specs.declared.points.Region.{Region}
use Rattle.zorder.specs.Distance.{gap, gap_to, distance, least_distance}
use Rattle.zorder.specs.Region.{has_point, IsBox}
use Rattle.prefix_names.proofs.HeldPoints.{held-so, so-held}

-- the number of the interval that is nearest
abbrev pub clamped : ℕ → ℕ → ℕ → ℕ
clamped lo hi n = max lo (min n hi)

abbrev pub nearest : Region → Point → Point
nearest r p = record { x = clamped r.lo.x r.hi.x p.x; y = clamped r.lo.y r.hi.y p.y }

gap_to-le : (lo hi m n : ℕ) → lo ≤ m → m ≤ hi → gap_to lo hi n ≤ gap m n
gap_to-le lo hi m n h k = omega arith

gap-clamped : (lo hi n : ℕ) → lo ≤ hi → gap (clamped lo hi n) n ≡ gap_to lo hi n
gap-clamped lo hi n h = omega arith

pub nearest-held : (r : Region) (p : Point) → IsBox r → IsTrue (has_point r (nearest r p))
nearest-held r p is = held-so r (nearest r p) (record { left = omega arith; right = omega (arith, is.x); low = omega arith; high = omega (arith, is.y) })

pub distance-nearest : (r : Region) (p : Point) → IsBox r → distance (nearest r p) p ≡ least_distance r p
distance-nearest r p is =
    λ i. gap-clamped r.lo.x r.hi.x p.x is.x i * gap-clamped r.lo.x r.hi.x p.x is.x i + gap-clamped r.lo.y r.hi.y p.y is.y i * gap-clamped r.lo.y r.hi.y p.y is.y i

pub least_distance-le : (r : Region) (p q : Point) → IsTrue (has_point r q) → least_distance r p ≤ distance q p
least_distance-le r p q held =
    let h = so-held r q held in
    let x : gap_to r.lo.x r.hi.x p.x ≤ gap q.x p.x = gap_to-le r.lo.x r.hi.x q.x p.x h.left h.right in
    let y : gap_to r.lo.y r.hi.y p.y ≤ gap q.y p.y = gap_to-le r.lo.y r.hi.y q.y p.y h.low h.high in
    let xx = mul-le (gap_to r.lo.x r.hi.x p.x) (gap_to r.lo.x r.hi.x p.x) (gap q.x p.x) (gap q.x p.x) x x in
    let yy = mul-le (gap_to r.lo.y r.hi.y p.y) (gap_to r.lo.y r.hi.y p.y) (gap q.y p.y) (gap q.y p.y) y y in
    omega (arith, xx, yy)
