use Rattle.std.proofs.Common.{sym, ◌∙◌, arith}
use Rattle.csv_rows.proofs.NumbersFacts.{number_in-some}
use Rattle.command_words.proofs.boxes.coordinate_in.Goals as goal

pub overflow_cast-result : goal.overflow_cast-result
overflow_cast-result c = omega (arith, (number_in-some c.from.result 4294967295 c.in_ok-number.number c.as_bytes.result.now (sym c.in_ok-number.was ∙ c.number_in.ensures)).3)
