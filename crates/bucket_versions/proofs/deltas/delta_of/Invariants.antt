use Rattle.std.proofs.Common.{◌≡◌, ◌+◌, length, not}
use Rattle.std.specs.List.{filter}
use Rattle.bucket_versions.specs.Rows.{has_row}
use Rattle.bucket_versions.specs.Delta.{difference}
use Rattle.bucket_versions.proofs.deltas.delta_of.Given as goal

abbrev pub invariant-loop-row : goal.invariant-loop-row
invariant-loop-row l = l.came + length (filter (λ r. not (has_row r l.base)) l.row-iterator) ≡ length (filter (λ r. not (has_row r l.base)) (difference l.under l.delta))
