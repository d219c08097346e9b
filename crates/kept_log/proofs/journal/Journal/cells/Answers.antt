use Rattle.std.proofs.Common.{sym, ap, ◌∙◌}
use Rattle.kept_log.specs.Journal.{cells_in}
use Rattle.kept_log.proofs.journal.Journal.cells.Goals as goal

pub returns-in-None-clause-cells : goal.returns-in-None-clause-cells
returns-in-None-clause-cells g c = sym (ap cells_in (sym c.self.view_is ∙ c.in-None.is))
