use Rattle.std.proofs.Common.{◌≡◌, ◌-◌, sym, ◌∙◌, ap, arith, subst}
use Rattle.zorder.specs.declared.points.Region.{Region}
use Rattle.zorder.specs.Key.{point_of}
use Rattle.zorder.specs.Region.{has_point, IsBox}
use Rattle.zorder.specs.Tile.{next_key}
use Rattle.prefix_names.specs.Regions.{region_of}
use Rattle.prefix_names.proofs.Corners.{IsBox-region_of, has_point-region_of}
use Rattle.prefix_names.proofs.regions.region.Goals as goal

made : (c : goal.After-point-2) → region_of c.args.name.now ≡ record { lo = c.point.result; hi = c.point-2.result }
made c =
    let range = c.key_range-first.ensures in
    let last : c.key_range-first.result.1 ≡ next_key c.args.name.now - 1 = omega (arith, range.last) in
    λ i. record { lo = sym (c.point.ensures.bits ∙ ap point_of range.first) i; hi = sym (c.point-2.ensures.bits ∙ ap point_of last) i }

pub returns-clause-is_box : goal.returns-clause-is_box
returns-clause-is_box c = subst IsBox (made c) (IsBox-region_of c.args.name.now c.key_range-first.ensures.most)

pub returns-clause-points : goal.returns-clause-points
returns-clause-points c p is =
    ap (λ (r : Region). has_point r p) (sym (made c)) ∙ has_point-region_of c.args.name.now c.key_range-first.ensures.most p is
