-- The points outside of a box around a point.
use Rattle.std.proofs.Common.{◌≡◌, ℕ, ◌+◌, ◌-◌, ◌*◌, ◌^◌, ◌<◌, ◌≤◌, false, min, inl, inr, sym, ◌∙◌, ap, arith}
use Rattle.std.proofs.Math.Nat.{mul-le-mul_left, mul_comm}
use Rattle.std.proofs.lemmas.Bool.{cases_lt, true≢false}
use Rattle.zorder.specs.declared.points.Point.{Point}
use Rattle.zorder.specs.declared.points.Region.{Region}
use Rattle.zorder.specs.Distance.{distance, gap}
use Rattle.zorder.specs.Key.{IsPoint}
use Rattle.zorder.specs.Region.{has_point}
use Rattle.prefix_names.proofs.HeldPoints.{held-so}

square-less : (a b : ℕ) → a < b → a * a < b * b
square-less a b h = grind arith

-- the square of one number and half of another that isn't greater
pub square-sum : (a b half c : ℕ) → b ≤ a → b ≤ 2 * half → c ≡ a + half → a * a + b * b ≤ c * c
square-sum a b half c less twice is =
    let parts : (a + half) * (a + half) ≡ a * a + a * (2 * half) + half * half = grind arith in
    let one : a * b ≤ a * (2 * half) = mul-le-mul_left a twice in
    let two : b * b ≤ b * a = mul-le-mul_left b less in
    let swap : b * a ≡ a * b = mul_comm b a in
    omega (arith, ap (λ n. n * n) is)

-- the sides of the box are as far from its middle, where there are such numbers
pub record IsAround (m : Point) (side : ℕ) (b : Region) : Type 0 where
  pub left : b.lo.x ≡ m.x - side
  pub low : b.lo.y ≡ m.y - side
  pub right : b.hi.x ≡ min (m.x + side) (2 ^ 32 - 1)
  pub high : b.hi.y ≡ min (m.y + side) (2 ^ 32 - 1)

pub outside-far : (m p : Point) (side : ℕ) (b : Region) → IsAround m side b → IsPoint m → IsPoint p → has_point b p ≡ false → (side * side < distance p m) × (side < 2 ^ 32 - 1)
outside-far m p side b around at_m at_p out =
    elim (cases_lt side (gap p.x m.x)) [
      | inl far ↦ (omega (arith, square-less side (gap p.x m.x) far), omega (arith, far, at_m.x, at_p.x))
      | inr near_x ↦
          elim (cases_lt side (gap p.y m.y)) [
            | inl far ↦ (omega (arith, square-less side (gap p.y m.y) far), omega (arith, far, at_m.y, at_p.y))
            | inr near_y ↦
                absurd (true≢false (sym (held-so b p (record {
                  left = omega (arith, around.left, near_x);
                  right = omega (arith, around.right, near_x, at_p.x);
                  low = omega (arith, around.low, near_y);
                  high = omega (arith, around.high, near_y, at_p.y);
                })) ∙ out))
          ]
    ]
