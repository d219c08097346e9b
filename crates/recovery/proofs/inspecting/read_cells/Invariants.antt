use Rattle.std.proofs.Common.{◌-◌}
use Rattle.recovery.specs.Reading.{IsOnWay}
use Rattle.recovery.proofs.inspecting.read_cells.Given as goal

abbrev pub invariant-loop-cell : goal.invariant-loop-cell
invariant-loop-cell g l = IsOnWay (g.D.LogDisk.drive l.fn.disk) (g.D.LogDisk.drive l.disk) l.fn.reading l.reading

abbrev pub decreases-loop-cell : goal.decreases-loop-cell
decreases-loop-cell g l = l.reading.most - l.reading.number
