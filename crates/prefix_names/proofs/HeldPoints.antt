-- Regions by the points in them.
use Rattle.std.proofs.Common.{◌≡◌, ◌↔◌, ℕ, ◌≤◌, Bool, true, ◌&&◌, max, arith}
use Rattle.std.specs.Prelude.{nat_le, IsTrue}
use Rattle.std.specs.Cmp.{first_so, second_so}
use Rattle.std.specs.Cmp.Derive.{both_true}
use Rattle.std.proofs.lemmas.Bool.{le-leb, leb-true}
use Rattle.zorder.specs.declared.points.Point.{Point}
use Rattle.zorder.specs.declared.points.Region.{Region}
use Rattle.zorder.specs.Region.{has_point, IsBox}
use Rattle.prefix_names.specs.Regions.{meet, lies_in, SharePoint, AllPointsIn}

-- a point is between the corners
pub record IsHeld (r : Region) (p : Point) : Type 0 where
  pub left : r.lo.x ≤ p.x
  pub right : p.x ≤ r.hi.x
  pub low : r.lo.y ≤ p.y
  pub high : p.y ≤ r.hi.y

pub held-so : (r : Region) (p : Point) → IsHeld r p → IsTrue (has_point r p)
held-so r p h =
    both_true (both_true (both_true (le-leb r.lo.x p.x h.left) (le-leb p.x r.hi.x h.right)) (le-leb r.lo.y p.y h.low)) (le-leb p.y r.hi.y h.high)

pub so-held : (r : Region) (p : Point) → IsTrue (has_point r p) → IsHeld r p
so-held r p e =
    let a : Bool = nat_le r.lo.x p.x in
    let b : Bool = nat_le p.x r.hi.x in
    let c : Bool = nat_le r.lo.y p.y in
    let d : Bool = nat_le p.y r.hi.y in
    let abc : (a && b && c) ≡ true = first_so (a && b && c) d e in
    let ab : (a && b) ≡ true = first_so (a && b) c abc in
    record {
      left = leb-true r.lo.x p.x (first_so a b ab);
      right = leb-true p.x r.hi.x (second_so a b ab);
      low = leb-true r.lo.y p.y (second_so (a && b) c abc);
      high = leb-true p.y r.hi.y (second_so (a && b && c) d e);
    }

-- two tests of two numbers each
pair-true : (a b c d : ℕ) → (nat_le a b && nat_le c d) ≡ true → (a ≤ b) × (c ≤ d)
pair-true a b c d e = (leb-true a b (first_so (nat_le a b) (nat_le c d) e), leb-true c d (second_so (nat_le a b) (nat_le c d) e))

true-pair : (a b c d : ℕ) → a ≤ b → c ≤ d → (nat_le a b && nat_le c d) ≡ true
true-pair a b c d h k = both_true (le-leb a b h) (le-leb c d k)

pub meet-points : (a b : Region) → IsBox a → IsBox b → IsTrue (meet a b) ↔ SharePoint a b
meet-points a b ha hb = (
  λ e. let x = pair-true a.lo.x b.hi.x b.lo.x a.hi.x (first_so (nat_le a.lo.x b.hi.x && nat_le b.lo.x a.hi.x) (nat_le a.lo.y b.hi.y && nat_le b.lo.y a.hi.y) e) in
      let y = pair-true a.lo.y b.hi.y b.lo.y a.hi.y (second_so (nat_le a.lo.x b.hi.x && nat_le b.lo.x a.hi.x) (nat_le a.lo.y b.hi.y && nat_le b.lo.y a.hi.y) e) in
      let p : Point = record { x = max a.lo.x b.lo.x; y = max a.lo.y b.lo.y } in (
        p,
        held-so a p (record { left = omega arith; right = omega (arith, x.1, ha.x); low = omega arith; high = omega (arith, y.1, ha.y) }),
        held-so b p (record { left = omega arith; right = omega (arith, x.0, hb.x); low = omega arith; high = omega (arith, y.0, hb.y) }),
      ),
  λ shared. let h = so-held a shared.0 shared.1 in
      let k = so-held b shared.0 shared.2 in
      both_true (true-pair a.lo.x b.hi.x b.lo.x a.hi.x (omega (arith, h.left, k.right)) (omega (arith, k.left, h.right)))
      (true-pair a.lo.y b.hi.y b.lo.y a.hi.y (omega (arith, h.low, k.high)) (omega (arith, k.low, h.high))),
)

pub lies_in-points : (a b : Region) → IsBox a → IsTrue (lies_in a b) ↔ AllPointsIn a b
lies_in-points a b ha = (
  λ e p held. let x = pair-true b.lo.x a.lo.x a.hi.x b.hi.x (first_so (nat_le b.lo.x a.lo.x && nat_le a.hi.x b.hi.x) (nat_le b.lo.y a.lo.y && nat_le a.hi.y b.hi.y) e) in
      let y = pair-true b.lo.y a.lo.y a.hi.y b.hi.y (second_so (nat_le b.lo.x a.lo.x && nat_le a.hi.x b.hi.x) (nat_le b.lo.y a.lo.y && nat_le a.hi.y b.hi.y) e) in
      let h = so-held a p held in
      held-so b p (record { left = omega (arith, x.0, h.left); right = omega (arith, x.1, h.right); low = omega (arith, y.0, h.low); high = omega (arith, y.1, h.high) }),
  λ all. let lo = so-held b a.lo (all a.lo (held-so a a.lo (record { left = omega arith; right = ha.x; low = omega arith; high = ha.y }))) in
      let hi = so-held b a.hi (all a.hi (held-so a a.hi (record { left = ha.x; right = omega arith; low = ha.y; high = omega arith }))) in
      both_true (true-pair b.lo.x a.lo.x a.hi.x b.hi.x lo.left hi.right) (true-pair b.lo.y a.lo.y a.hi.y b.hi.y lo.low hi.high),
)
