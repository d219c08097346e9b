use Rattle.std.proofs.Common.{◌∙◌, sym, ap, arith, Err}
use Rattle.csv_rows.proofs.RowsFacts.{all_rules, has_all, has_more, has_wrong}
use Rattle.csv_rows.proofs.read.read_next.Goals as goal

pub returns-then-not-more-clause-rows : goal.returns-then-not-more-clause-rows
returns-then-not-more-clause-rows g c = (
  has_all g.text _ _ _ _ _ _ c.requires.1 c.in_ok-more.ensures.found c.if-not-more.true,
  all_rules g.text _ _ _ c.requires.1 (omega (arith, c.requires.0)),
)

pub returns-in-Err-clause-fault : goal.returns-in-Err-clause-fault
returns-in-Err-clause-fault g c other =
    has_wrong g.text _ _ _ _ _ _ c.in-Err.wrong c.requires.1 c.in_ok-more.ensures.found c.if-not-more.false c.requires.0 (sym c.in-Err.ensures.row)
    ∙ ap (λ e. Err e) (sym c.fault_at.ensures)

pub returns-clause-rows : goal.returns-clause-rows
returns-clause-rows g c =
    rw c.in_ok-push.ensures.items (has_more g.text _ _ _ _ _ _ c.in-Ok.row c.requires.1 c.in_ok-more.ensures.found c.if-not-more.false c.requires.0 (sym c.in-Ok.ensures.row) c.in-Ok.ensures.rules)
