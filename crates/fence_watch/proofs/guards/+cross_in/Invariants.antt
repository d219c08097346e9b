use Rattle.std.proofs.Common.{length}
use Rattle.fence_watch.proofs.guards.+cross_in.Given as goal

abbrev pub decreases-cross_in : goal.decreases-cross_in
decreases-cross_in l = length l.guards.now
