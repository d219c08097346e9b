use Rattle.std.proofs.Common.{◌≡◌, ◌++◌}
use Rattle.bucket_versions.specs.Rows.{rows_between}
use Rattle.table_share.proofs.scans.push_between.Given as goal

abbrev pub invariant-loop-row : goal.invariant-loop-row
invariant-loop-row g l = l.found.items ++ rows_between l.lo l.hi l.row-iterator ≡ l.fn.found.items ++ rows_between l.lo l.hi l.bucket.rows
