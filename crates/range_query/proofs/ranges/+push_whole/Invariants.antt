use Rattle.std.proofs.Common.{◌-◌, length}
use Rattle.range_query.proofs.ranges.+push_whole.Given as goal

abbrev pub decreases-push_whole : goal.decreases-push_whole
decreases-push_whole g l = 64 - length l.name.now
