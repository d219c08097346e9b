use Rattle.std.proofs.Common.{◌≡◌, map, take}
use Rattle.std.specs.Arc.{arc_value}
use Rattle.point_table.specs.Divisions.{marks_of}
use Rattle.point_table.proofs.table.splits.marks_of.Given as goal

-- so far, the marks of the first children
abbrev pub invariant-loop-place : goal.invariant-loop-place
invariant-loop-place l = l.marks.items ≡ take l.place (marks_of l.width l.size l.name (map arc_value l.buckets))
