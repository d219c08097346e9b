use Rattle.std.proofs.Common.{◌≡◌, ◌+◌, vec_len}
use mathlib.Core.List.{IsPrefix}
use Rattle.store_client.specs.Pools.{SameLabel}
use Rattle.store_client.proofs.pool.Pool.close.Given as goal

abbrev pub invariant-loop-desk : goal.invariant-loop-desk
invariant-loop-desk g l =
    (l.boss.pass.lock ≡ l.initial.boss.pass.lock)
    × (l.boss.pass.origin ≡ l.initial.boss.pass.origin)
    × (l.boss.pass.parts + vec_len l.desks ≡ l.initial.boss.pass.parts + vec_len l.initial.desks)
    × SameLabel l.initial.boss l.boss
    × IsPrefix l.initial.boss.pass.seen l.boss.pass.seen

abbrev pub decreases-loop-desk : goal.decreases-loop-desk
decreases-loop-desk g l = goal.left-loop-desk g l
