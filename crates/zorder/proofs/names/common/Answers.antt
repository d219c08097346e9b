use Rattle.std.proofs.Common.{◌∙◌}
use Rattle.zorder.proofs.Prefixes.{common_name-zeros}
use Rattle.zorder.proofs.names.common.Goals as goal

pub returns : goal.returns
returns c = c.first_bits.ensures ∙ common_name-zeros c.args.a c.args.b c.ranges.a.fits c.ranges.b.fits
