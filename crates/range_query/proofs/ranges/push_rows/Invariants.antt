use Rattle.std.proofs.Common.{◌≡◌, ◌++◌}
use Rattle.plain_list.specs.Queries.{members_in}
use Rattle.table_share.specs.Objects.{objects_of}
use Rattle.range_query.proofs.ranges.push_rows.Given as goal

abbrev pub invariant-loop-row : goal.invariant-loop-row
invariant-loop-row g l = l.found.items ++ members_in l.region (objects_of l.row-iterator) ≡ l.fn.found.items ++ members_in l.region (objects_of l.bucket.rows)
