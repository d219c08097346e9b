use Rattle.std.proofs.Common.{drop}
use Rattle.lane_history.specs.Lanes.{AreCalmLanes}
use Rattle.play_run.proofs.lanes.are_calm.Given as goal

abbrev pub invariant-loop-lane : goal.invariant-loop-lane
invariant-loop-lane g l = AreCalmLanes {I = g.row.I.Denot} {D = g.row.D.Denot} {O = g.row.O.Denot} {P = g.row.I-Place.Denot} (drop l.lane-index l.lanes) → AreCalmLanes {I = g.row.I.Denot} {D = g.row.D.Denot} {O = g.row.O.Denot} {P = g.row.I-Place.Denot} l.lanes
