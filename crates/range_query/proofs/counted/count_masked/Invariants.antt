use Rattle.std.proofs.Common.{◌≡◌, ◌+◌, ◌<◌, ◌^◌}
use Rattle.bucket_versions.specs.Rows.{IsRows}
use Rattle.range_query.specs.Masks.{number_masked}
use Rattle.range_query.proofs.counted.count_masked.Given as goal

abbrev pub invariant-loop-row : goal.invariant-loop-row
invariant-loop-row l =
    IsRows l.row-iterator × (number_masked l.mask l.from l.to l.fn.rows < 2 ^ 64 → l.count + number_masked l.mask l.from l.to l.row-iterator ≡ number_masked l.mask l.from l.to l.fn.rows)
