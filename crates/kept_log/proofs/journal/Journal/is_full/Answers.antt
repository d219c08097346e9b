use Rattle.std.proofs.Common.{ap}
use Rattle.std.specs.Prelude.{◌==◌}
use Rattle.kept_log.proofs.journal.Journal.is_full.Goals as goal

pub returns : goal.returns
returns g c = ap (λ n. n == 16777216) c.cells.ensures.cells
