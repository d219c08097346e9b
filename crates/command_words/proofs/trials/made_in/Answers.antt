use Rattle.std.proofs.Common.{sym, ◌∙◌, arith}
use Rattle.csv_rows.proofs.NumbersFacts.{number_in-some}
use Rattle.command_words.proofs.trials.made_in.Goals as goal

pub overflow_cast-result : goal.overflow_cast-result
overflow_cast-result c = omega (arith, (number_in-some 1 65536 c.in_ok-rows.rows c.as_bytes.result.now (sym c.in_ok-rows.was ∙ c.number_in.ensures)).3)
