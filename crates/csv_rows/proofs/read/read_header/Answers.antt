use Rattle.std.proofs.Common.{◌∙◌, sym}
use Rattle.csv_rows.proofs.RowsFacts.{begins, no_header, no_record}
use Rattle.csv_rows.proofs.read.read_header.Goals as goal

pub returns-then-not-begins-clause-fault : goal.returns-then-not-begins-clause-fault
returns-then-not-begins-clause-fault g c other = no_record g.text _ _ _ _ c.requires c.in_ok-begins.ensures.found c.if-not-begins.true

pub returns-then-not-is_header-clause-fault : goal.returns-then-not-is_header-clause-fault
returns-then-not-is_header-clause-fault g c other = no_header g.text _ _ _ _ c.requires c.in_ok-begins.ensures.found c.if-not-begins.false (sym c.is_header.ensures ∙ c.if-not-is_header.true)

pub returns-clause-header : goal.returns-clause-header
returns-clause-header g c = begins g.text _ _ _ _ c.requires c.in_ok-begins.ensures.found c.if-not-begins.false (sym c.is_header.ensures ∙ c.if-not-is_header.false)
