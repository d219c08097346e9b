use Rattle.std.proofs.Common.{◌∙◌, ap}
use Rattle.zorder.specs.Spread.{step_apart}
use Rattle.zorder.proofs.Steps.{apart, apart-spread}
use Rattle.zorder.proofs.keys.spread.Goals as goal

pub returns-clause-sum : goal.returns-clause-sum
unfolding apart
returns-clause-sum c =
    c.apart.ensures
    ∙ ap (step_apart 1 0x5555555555555555)
    (c.apart-twos.ensures
    ∙ ap (step_apart 2 0x3333333333333333)
    (c.apart-fours.ensures
    ∙ ap (step_apart 4 0x0F0F0F0F0F0F0F0F)
    (c.apart-eights.ensures ∙ ap (step_apart 8 0x00FF00FF00FF00FF) (c.apart-sixteens.ensures ∙ ap (step_apart 16 0x0000FFFF0000FFFF) c.from.ensures))))
    ∙ apart-spread c.args.half c.ranges.half.fits
