use Rattle.csv_rows.specs.Records.{HasRead}
use Rattle.csv_rows.proofs.read.read_behind.Given as goal

abbrev pub ghost-read_next : goal.ghost-read_next
ghost-read_next g a = g.text

abbrev pub invariant-loop-number : goal.invariant-loop-number
invariant-loop-number g l = HasRead g.text l.reader l.rows.items l.number
