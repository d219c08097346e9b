use Rattle.std.proofs.Common.{◌-◌}
use Rattle.fence_watch.specs.Slabs.{IsAmong}
use Rattle.fence_watch.proofs.hints.slab_in.Given as goal

abbrev pub invariant-loop-left : goal.invariant-loop-left
invariant-loop-left l = IsAmong l.edges l.at l.slab l.left

abbrev pub decreases-loop-left : goal.decreases-loop-left
decreases-loop-left l = l.left - 1
