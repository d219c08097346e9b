use Rattle.std.proofs.Common.{◌-◌}
use Rattle.fence_watch.proofs.Alonging.{AreOnWay}
use Rattle.fence_watch.proofs.tally.Tally.along.Given as goal

abbrev pub invariant-cells : goal.invariant-cells
invariant-cells g l = AreOnWay (g.D.LogDisk.drive l.fn.walk.disk) (g.D.LogDisk.drive l.walk.disk) l.fn.walk l.walk l.fn.self l.self

abbrev pub decreases-cells : goal.decreases-cells
decreases-cells g l = l.fn.walk.reading.most - l.walk.reading.number
