use Rattle.std.proofs.Common.{◌-◌, length}
use Rattle.sessions.specs.Lanes.{PlaysOn}
use Rattle.sessions.proofs.store.Store.play_rows.Given as goal

abbrev pub invariant-loop-i : goal.invariant-loop-i
invariant-loop-i g l = PlaysOn g.I.Index.WIDTH 0 l.i l.fn.lane l.lane

abbrev pub decreases-loop-i : goal.decreases-loop-i
decreases-loop-i g l = length l.fn.lane.rows.items - l.i
