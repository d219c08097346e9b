use Rattle.std.proofs.Common.{◌≡◌, ◌++◌}
use Rattle.table_share.specs.Objects.{objects_of}
use Rattle.range_query.proofs.ranges.push_all.Given as goal

abbrev pub invariant-loop-row : goal.invariant-loop-row
invariant-loop-row g l = l.found.items ++ objects_of l.row-iterator ≡ l.fn.found.items ++ objects_of l.bucket.rows
