use Rattle.std.proofs.Common.{◌≡◌}
use Rattle.plain_list.specs.World.{IsWorld}
use Rattle.point_table.specs.Nets.{settle_each}
use Rattle.point_table.proofs.table.net.settle_each.Given as goal

-- the changes that are left end where all of them would
abbrev pub invariant-loop-id : goal.invariant-loop-id
invariant-loop-id l = (settle_each l.id-iterator l.members ≡ settle_each l.fn.left.entries l.fn.members) × (IsWorld l.fn.members → IsWorld l.members)
