use Rattle.std.proofs.Common.{◌-◌, length}
use Rattle.range_query.proofs.counts.+number_below.Given as goal

abbrev pub decreases-number_below : goal.decreases-number_below
decreases-number_below g l = 64 - length l.name.now
