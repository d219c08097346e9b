use Rattle.std.proofs.Common.{◌≡◌, ◌+◌, vec_len, vec_capacity}
use Rattle.store_client.proofs.Hands.{Hiring}
use Rattle.store_client.proofs.client.Client.hire_all.Given as goal

abbrev pub invariant-loop-work : goal.invariant-loop-work
invariant-loop-work g l = record {
  so_far : Hiring {I = g.row.I.Denot} {D = g.row.D.Denot} {O = g.row.O.Denot} {W = g.row.W.Denot} {P = g.row.I-Place.Denot} l.first l.initial.self l.initial.works.items l.works.items l.team.items l.self;
  count : vec_len l.works + vec_len l.team ≡ vec_len l.initial.works;
  room : vec_capacity l.team ≡ vec_capacity l.initial.team;
  capacity : vec_capacity l.works ≡ vec_capacity l.initial.works;
}

abbrev pub decreases-loop-work : goal.decreases-loop-work
decreases-loop-work g l = vec_len l.works
