use Rattle.std.proofs.Common.{◌-◌, length}
use Rattle.range_query.proofs.found.+list_below.Given as goal

abbrev pub decreases-list_below : goal.decreases-list_below
decreases-list_below g l = 64 - length l.name.now
