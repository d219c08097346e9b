use Rattle.std.proofs.Common.{◌-◌}
use Rattle.follower.specs.Comparing.{IsCounting}
use Rattle.follower.specs.Opening.{most_held}
use Rattle.follower.proofs.comparing.count_same.Given as goal

abbrev pub invariant-loop-walked : goal.invariant-loop-walked
invariant-loop-walked g l = IsCounting l.fn.walk.reading.replay.width l.cells (g.D.LogDisk.drive l.fn.walk.disk) (g.D.LogDisk.drive l.walk.disk) l.walk l.tally

abbrev pub decreases-loop-walked : goal.decreases-loop-walked
decreases-loop-walked g l = most_held - l.walk.reading.number
