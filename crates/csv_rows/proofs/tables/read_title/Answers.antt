use Rattle.std.proofs.Common.{◌∙◌, sym}
use Rattle.csv_rows.proofs.TablesFacts.{table-begins, table-empty, table-untitled}
use Rattle.csv_rows.proofs.tables.read_title.Goals as goal

pub returns-then-not-begins-clause-fault : goal.returns-then-not-begins-clause-fault
returns-then-not-begins-clause-fault g c other = table-empty g.R.ReadsRow.table g.text _ _ _ _ c.requires.1.1 c.in_ok-begins.ensures.found c.if-not-begins.true

pub returns-then-not-is_header-clause-fault : goal.returns-then-not-is_header-clause-fault
returns-then-not-is_header-clause-fault g c other =
    table-untitled g.R.ReadsRow.table g.text _ _ _ _ c.requires.1.1 c.in_ok-begins.ensures.found c.if-not-begins.false (sym c.is_header.ensures ∙ c.if-not-is_header.true)

pub returns-clause-header : goal.returns-clause-header
returns-clause-header g c =
    table-begins g.R.ReadsRow.table g.text _ _ _ _ c.requires.1.1 c.in_ok-begins.ensures.found c.if-not-begins.false (sym c.is_header.ensures ∙ c.if-not-is_header.false)
