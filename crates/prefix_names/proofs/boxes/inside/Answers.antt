use Rattle.std.proofs.Common.{◌≡◌, ◌↔◌, Bool, true, ◌&&◌, sym, ◌∙◌, ap, subst}
use Rattle.std.specs.Prelude.{nat_le, IsTrue}
use Rattle.zorder.specs.declared.points.Region.{Region}
use Rattle.prefix_names.specs.Regions.{lies_in, AllPointsIn}
use Rattle.prefix_names.proofs.HeldPoints.{lies_in-points}
use Rattle.prefix_names.proofs.boxes.inside.Goals as goal

-- both tests, the first of which came out true
both : (a b : Region) (x y : Bool) → x ≡ true → x ≡ (nat_le b.lo.x a.lo.x && nat_le a.hi.x b.hi.x) → y ≡ (nat_le b.lo.y a.lo.y && nat_le a.hi.y b.hi.y) → y ≡ lies_in a b
both a b x y so left up = up ∙ ap (λ t. t && (nat_le b.lo.y a.lo.y && nat_le a.hi.y b.hi.y)) (sym so ∙ left)

pub returns-then-cover-clause-test : goal.returns-then-cover-clause-test
returns-then-cover-clause-test c = both c.args.a.now c.args.b.now _ _ c.if-cover.true c.cover.ensures c.cover-then-cover.ensures

pub returns-then-cover-clause-points : goal.returns-then-cover-clause-points
returns-then-cover-clause-points c =
    let a = c.args.a.now in
    let b = c.args.b.now in
    subst (λ t. IsTrue t ↔ AllPointsIn a b) (sym (both a b _ _ c.if-cover.true c.cover.ensures c.cover-then-cover.ensures)) (lies_in-points a b c.requires.a_box)
