use Rattle.std.proofs.Common.{◌≡◌, ◌↔◌, Bool, ◌&&◌, sym, ◌∙◌, ap, subst}
use Rattle.std.specs.Prelude.{nat_le, IsTrue}
use Rattle.prefix_names.specs.Regions.{meet, SharePoint}
use Rattle.prefix_names.proofs.HeldPoints.{meet-points}
use Rattle.prefix_names.proofs.boxes.meets.Goals as goal

pub returns-then-overlap-clause-points : goal.returns-then-overlap-clause-points
returns-then-overlap-clause-points c =
    let a = c.args.a.now in
    let b = c.args.b.now in
    let up : Bool = nat_le a.lo.y b.hi.y && nat_le b.lo.y a.hi.y in
    let same : c.overlap-then-overlap.result ≡ meet a b = c.overlap-then-overlap.ensures ∙ ap (λ t. t && up) (sym c.if-overlap.true ∙ c.overlap.ensures) in
    subst (λ t. IsTrue t ↔ SharePoint a b) (sym same) (meet-points a b c.requires.a_box c.requires.b_box)
