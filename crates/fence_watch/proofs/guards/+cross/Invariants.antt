use Rattle.std.proofs.Common.{length}
use Rattle.fence_watch.proofs.guards.+cross.Given as goal

abbrev pub decreases-cross : goal.decreases-cross
decreases-cross l = length l.guards.now
