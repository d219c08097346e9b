use Rattle.std.proofs.Common.{◌∷◌, length}
use Rattle.log_compact.specs.Staging.{IsStaging, and_taken}
use Rattle.log_compact.proofs.staging.stage.Given as goal

abbrev pub invariant-pieces : goal.invariant-pieces
invariant-pieces g l = IsStaging (l.fn.first ∷ l.initial.cells) (and_taken l.held l.cells) l.at (g.D.LogDisk.drive l.fn.disk) (g.D.LogDisk.drive l.disk)

abbrev pub decreases-pieces : goal.decreases-pieces
decreases-pieces g l = length (and_taken l.held l.cells)
