use Rattle.std.proofs.Common.{arith}
use Rattle.std.proofs.lemmas.Grind.{common_steps}
use Rattle.point_table.proofs.table.mark_come.Goals as goal

pub returns-else-count-from : goal.returns-else-count-from
returns-else-count-from g c = grind (arith, common_steps)
