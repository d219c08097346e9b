use Rattle.std.proofs.Common.{◌≡◌, map, take}
use Rattle.std.specs.Arc.{arc_value}
use Rattle.split_prepare.specs.Cut.{cut}
use Rattle.point_table.proofs.table.splits.caught_up.Given as goal

-- so far, the buckets of the first children
abbrev pub invariant-loop-place : goal.invariant-loop-place
invariant-loop-place l = map arc_value l.buckets.items ≡ take l.place (cut l.width l.name l.from.rows)
