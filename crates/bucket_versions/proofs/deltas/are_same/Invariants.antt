use Rattle.std.proofs.Common.{◌≡◌, length}
use Rattle.bucket_versions.specs.Rows.{same_rows}
use Rattle.bucket_versions.proofs.deltas.are_same.Given as goal

abbrev pub invariant-both : goal.invariant-both
invariant-both l = same_rows l.rows l.others ≡ same_rows l.fn.rows l.fn.others

abbrev pub decreases-both : goal.decreases-both
decreases-both l = length l.rows
