use Rattle.std.proofs.Common.{◌≡◌, ◌≤◌, vec_len, vec_capacity}
use Rattle.store_client.specs.Caller.{without_parts}
use Rattle.store_client.proofs.pool.Pool.open.Given as goal

abbrev pub invariant-loop-number : goal.invariant-loop-number
invariant-loop-number g l = (vec_len l.desks ≡ l.number) × (l.clients ≤ vec_capacity l.desks) × (l.boss ≡ without_parts l.number l.initial.boss)
