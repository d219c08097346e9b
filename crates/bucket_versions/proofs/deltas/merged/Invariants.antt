use Rattle.std.proofs.Common.{◌≡◌, ◌++◌, drop}
use Rattle.bucket_versions.specs.Rows.{IsRows}
use Rattle.bucket_versions.specs.Delta.{difference}
use Rattle.bucket_versions.proofs.deltas.merged.Given as goal

abbrev pub invariant-loop-turned : goal.invariant-loop-turned
invariant-loop-turned l = (l.all.items ++ difference l.rest (drop l.turned-index l.delta) ≡ difference l.base l.delta) × IsRows l.rest
