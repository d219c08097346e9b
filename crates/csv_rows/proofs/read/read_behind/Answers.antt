use Rattle.std.proofs.Common.{arith}
use Rattle.csv_rows.proofs.RowsFacts.{all_rules, has_all, has_over}
use Rattle.csv_rows.proofs.read.read_behind.Goals as goal

pub returns-then-over-clause-fault : goal.returns-then-over-clause-fault
returns-then-over-clause-fault g c other = has_over g.text _ _ _ _ _ _ c.loop-number.invariant c.in_ok-over.ensures.found c.if-over.true (omega arith)

pub returns-clause-rows : goal.returns-clause-rows
returns-clause-rows g c = (
  has_all g.text _ _ _ _ _ _ c.loop-number.invariant c.in_ok-over.ensures.found c.if-over.false,
  all_rules g.text _ _ _ c.loop-number.invariant (omega arith),
)
