use Rattle.std.proofs.Common.{arith}
use Rattle.std.proofs.lemmas.Grind.{common_steps}
use Rattle.point_table.proofs.table.mark_two.Goals as goal

pub returns-then-count-from : goal.returns-then-count-from
returns-then-count-from g c = grind (arith, common_steps)
