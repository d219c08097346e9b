use Rattle.std.proofs.Common.{◌∙◌, ap}
use Rattle.zorder.specs.Spread.{step_together}
use Rattle.zorder.proofs.Steps.{together, together-even}
use Rattle.zorder.proofs.keys.squash.Goals as goal

pub returns : goal.returns
unfolding together
returns c =
    c.together.ensures
    ∙ ap (step_together 16 0xFFFFFFFF)
    (c.together-sixteens.ensures
    ∙ ap (step_together 8 0x0000FFFF0000FFFF)
    (c.together-eights.ensures
    ∙ ap (step_together 4 0x00FF00FF00FF00FF)
    (c.together-fours.ensures ∙ ap (step_together 2 0x0F0F0F0F0F0F0F0F) c.together-twos.ensures)))
    ∙ together-even c.args.key c.ranges.key.fits
