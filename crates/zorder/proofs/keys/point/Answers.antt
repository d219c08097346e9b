use Rattle.std.proofs.Common.{◌∙◌, sym, ap}
use Rattle.zorder.specs.Key.{key_of, point_of}
use Rattle.zorder.proofs.Places.{key_of-point_of, point_of-key_of}
use Rattle.zorder.proofs.keys.point.Goals as goal

pub returns-clause-back : goal.returns-clause-back
returns-clause-back c =
    ap key_of (λ i. record { x = c.squash.ensures i; y = c.squash-2.ensures i }) ∙ key_of-point_of c.args.key c.ranges.key.fits

pub returns-clause-only : goal.returns-clause-only
returns-clause-only c p is e =
    (λ i. record { x = c.squash.ensures i; y = c.squash-2.ensures i }) ∙ ap point_of (sym e) ∙ point_of-key_of p is
