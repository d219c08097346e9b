use Rattle.std.proofs.Common.{length}
use Rattle.fence_watch.proofs.counts.+cross_counted.Given as goal

abbrev pub decreases-cross_counted : goal.decreases-cross_counted
decreases-cross_counted l = length l.counts.now
