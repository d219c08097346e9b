use Rattle.csv_rows.proofs.WrittenFacts.{HasTaken}
use Rattle.csv_rows.proofs.written.written_rows.Given as goal

abbrev pub invariant-loop : goal.invariant-loop
invariant-loop l = HasTaken l.text l.rest l.rows.items l.counter
