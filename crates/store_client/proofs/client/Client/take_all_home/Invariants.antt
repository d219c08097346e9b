use Rattle.std.proofs.Common.{◌≡◌, ◌+◌, vec_len, vec_capacity}
use Rattle.std.specs.List.{All}
use Rattle.store_client.specs.declared.crowd.Worker.{Worker}
use Rattle.store_client.proofs.Hands.{Homing}
use Rattle.store_client.proofs.client.Client.take_all_home.Given as goal

abbrev pub invariant-loop-worker : goal.invariant-loop-worker
invariant-loop-worker g l = record {
  so_far : Homing {I = g.row.I.Denot} {D = g.row.D.Denot} {O = g.row.O.Denot} {W = g.row.W.Denot} {P = g.row.I-Place.Denot} l.initial.self l.initial.team.items l.team.items l.works.items l.self;
  lock : All (λ (hand : Worker g.row.I.Denot g.row.D.Denot g.row.O.Denot g.row.W.Denot g.row.I-Place.Denot). hand.client.pass.lock ≡ l.self.pass.lock) l.team.items;
  count : vec_len l.works + vec_len l.team ≡ vec_len l.initial.team;
  room : vec_capacity l.works ≡ vec_capacity l.initial.works;
}

abbrev pub decreases-loop-worker : goal.decreases-loop-worker
decreases-loop-worker g l = vec_len l.team
