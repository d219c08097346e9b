use Rattle.std.proofs.Common.{◌≡◌, ◌+◌, ◌<◌, ◌^◌}
use Rattle.range_query.specs.Cut.{number_in}
use Rattle.range_query.proofs.counted.count_within.Given as goal

abbrev pub invariant-loop-row : goal.invariant-loop-row
invariant-loop-row l = number_in l.region l.fn.rows < 2 ^ 64 → l.count + number_in l.region l.row-iterator ≡ number_in l.region l.fn.rows
