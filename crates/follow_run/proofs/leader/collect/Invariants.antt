use Rattle.std.proofs.Common.{◌-◌, Ok, length}
use Rattle.recovery.specs.Reading.{OnlyReads}
use Rattle.recovery.specs.Walks.{ComesTo}
use Rattle.follower.specs.Holding.{most_followed}
use Rattle.follow_run.proofs.leader.collect.Given as goal

abbrev pub invariant-loop-cells : goal.invariant-loop-cells
invariant-loop-cells g l =
    ComesTo l.fn.walk.reading.replay.width most_followed l.cells.items (g.D.LogDisk.drive l.walk.disk) l.walk
    × OnlyReads {T = Unit {0}} (g.D.LogDisk.drive l.fn.walk.disk) (g.D.LogDisk.drive l.walk.disk) (Ok tt)

abbrev pub decreases-loop-cells : goal.decreases-loop-cells
decreases-loop-cells g l = most_followed - length l.cells.items
