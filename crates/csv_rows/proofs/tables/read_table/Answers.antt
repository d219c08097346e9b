use Rattle.std.proofs.Common.{◌∙◌, sym, ap, List, ℕ, [], subst}
use Rattle.csv_rows.specs.Records.{StandsBehind}
use Rattle.csv_rows.specs.Rows.{has_mark}
use Rattle.csv_rows.proofs.TablesFacts.{table-marked, table-unmarked}
use Rattle.csv_rows.proofs.tables.read_table.Goals as goal

pub returns-then-has_mark-clause-fault : goal.returns-then-has_mark-clause-fault
returns-then-has_mark-clause-fault g c other =
    table-marked g.R.ReadsRow.table c.args.bytes.now (ap has_mark (sym c.behind_mark-text.ensures) ∙ sym c.has_mark.ensures ∙ c.if-has_mark.true)

pub read_whole-requires : goal.read_whole-requires
read_whole-requires g c κs outlives =
    let reader = c.reader_of-reader in
    let start = subst (λ (text : List ℕ). StandsBehind text [] reader.result) (sym reader.ensures.source) reader.ensures.start in
    (outlives.0, (outlives.1, (c.requires, start)))

pub returns-clause-rows : goal.returns-clause-rows
returns-clause-rows g c =
    rw (table-unmarked g.R.ReadsRow.table c.args.bytes.now c.behind_mark-text.result.now c.has_mark.result c.behind_mark-text.ensures c.has_mark.ensures c.if-has_mark.false, sym c.reader_of-reader.ensures.source) c.read_whole.ensures.rows

pub returns-clause-fault : goal.returns-clause-fault
returns-clause-fault g c =
    rw (table-unmarked g.R.ReadsRow.table c.args.bytes.now c.behind_mark-text.result.now c.has_mark.result c.behind_mark-text.ensures c.has_mark.ensures c.if-has_mark.false, sym c.reader_of-reader.ensures.source) c.read_whole.ensures.fault
