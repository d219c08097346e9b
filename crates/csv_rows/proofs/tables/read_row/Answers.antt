use Rattle.std.proofs.Common.{◌∙◌, ◌+◌, sym, ap, arith, Err}
use Rattle.csv_rows.specs.Rows.{fault_at}
use Rattle.csv_rows.proofs.TablesFacts.{table-all, table-more, table-wrong}
use Rattle.csv_rows.proofs.tables.read_row.Goals as goal

pub returns-then-not-more-clause-rows : goal.returns-then-not-more-clause-rows
returns-then-not-more-clause-rows g c = table-all g.R.ReadsRow.table g.text _ _ _ _ _ c.requires.1.1.1.1.1.1 c.in_ok-more.ensures.found c.if-not-more.true

pub returns-in-Err-clause-fault : goal.returns-in-Err-clause-fault
returns-in-Err-clause-fault g c other =
    let given = c.requires.1.1 in
    let bad = sym (rw c.as_slice.ensures.value at c.in-Err.ensures.row) in
    table-wrong g.R.ReadsRow.table g.text _ _ _ _ _ c.in-Err.wrong given.1.1.1.1 c.in_ok-more.ensures.found c.if-not-more.false (omega (arith, given.0, given.1.1.0)) bad
    ∙ ap (λ n. Err (fault_at (n + 1) c.in-Err.wrong)) given.1.1.0 ∙ ap (λ e. Err e) (sym c.fault_at.ensures)

pub returns-clause-rows : goal.returns-clause-rows
returns-clause-rows g c =
    let given = c.requires.1.1 in
    let good = sym (rw c.as_slice.ensures.value at c.in-Ok.ensures.row) in
    rw c.in_ok-push.ensures.items (table-more g.R.ReadsRow.table g.text _ _ _ _ _ c.in-Ok.row given.1.1.1.1 c.in_ok-more.ensures.found c.if-not-more.false (omega (arith, given.0, given.1.1.0)) good)
