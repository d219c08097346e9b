use Rattle.std.proofs.Common.{arith}
use Rattle.csv_rows.proofs.TablesFacts.{table-all, table-over}
use Rattle.csv_rows.proofs.tables.read_below.Goals as goal

pub returns-then-over-clause-fault : goal.returns-then-over-clause-fault
returns-then-over-clause-fault g c other =
    table-over g.R.ReadsRow.table g.text _ _ _ _ _ c.loop-before.invariant.read c.in_ok-over.ensures.found c.if-over.true (omega (arith, c.loop-before.invariant.count, c.most-most.ensures))

pub returns-clause-rows : goal.returns-clause-rows
returns-clause-rows g c = table-all g.R.ReadsRow.table g.text _ _ _ _ _ c.loop-before.invariant.read c.in_ok-over.ensures.found c.if-over.false
