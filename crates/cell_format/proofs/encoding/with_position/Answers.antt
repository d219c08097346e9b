use Rattle.std.proofs.Common.{rules}
use Rattle.cell_format.proofs.encoding.with_position.Goals as goal

pub returns-clause-spelled : goal.returns-clause-spelled
returns-clause-spelled c = search rules
