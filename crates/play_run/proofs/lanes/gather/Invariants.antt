use Rattle.std.proofs.Common.{◌≡◌, ◌+◌, ◌≤◌, length, vec_len, vec_capacity, false}
use Rattle.play_run.proofs.Joining.{Joining}
use Rattle.play_run.proofs.lanes.gather.Given as goal

abbrev pub invariant-loop-lane : goal.invariant-loop-lane
invariant-loop-lane g l =
    Joining {I = g.row.I.Denot} {D = g.row.D.Denot} {O = g.row.O.Denot} {P = g.row.I-Place.Denot} l.store l.initial.pass l.initial.lanes.items l.initial.ends.items l.lanes.items l.pass l.ends.items
    × (vec_len l.ends + length l.lanes.items ≤ vec_capacity l.ends) × (l.pass.lock ≡ l.store) × (l.pass.holds ≡ false)

abbrev pub decreases-loop-lane : goal.decreases-loop-lane
decreases-loop-lane g l = vec_len l.lanes
