use Rattle.std.proofs.Common.{rules}
use Rattle.point_table.proofs.table.change.Goals as goal

pub returns-clause-keeps : goal.returns-clause-keeps
returns-clause-keeps g c = search rules
