use Rattle.std.proofs.Common.{◌-◌, length}
use Rattle.range_query.proofs.ranges.+push_below.Given as goal

abbrev pub decreases-push_below : goal.decreases-push_below
decreases-push_below g l = 64 - length l.name.now
