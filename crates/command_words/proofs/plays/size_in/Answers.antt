use Rattle.std.proofs.Common.{sym, ◌∙◌, arith}
use Rattle.csv_rows.proofs.NumbersFacts.{number_in-some}
use Rattle.command_words.proofs.plays.size_in.Goals as goal

pub overflow_cast-result : goal.overflow_cast-result
overflow_cast-result c = omega (arith, (number_in-some 4 4096 c.in_ok-size.size c.as_bytes.result.now (sym c.in_ok-size.was ∙ c.number_in.ensures)).3)
