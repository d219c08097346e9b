use Rattle.std.proofs.Common.{◌≡◌, ◌∙◌, sym, ap, List, ℕ, Bool, false}
use Rattle.csv_rows.specs.Records.{rows_in}
use Rattle.csv_rows.specs.Rows.{has_mark, behind_mark, rows_of}
use Rattle.csv_rows.proofs.RowsFacts.{rows_of-marked, rows_of-unmarked}
use Rattle.csv_rows.proofs.WrittenFacts.{written-rows}
use Rattle.csv_rows.proofs.read.read_rows.Goals as goal

pub returns-then-has_mark-clause-fault : goal.returns-then-has_mark-clause-fault
returns-then-has_mark-clause-fault c other = rows_of-marked c.args.bytes.now (ap has_mark (sym c.behind_mark-text.ensures) ∙ sym c.has_mark.ensures ∙ c.if-has_mark.true)

-- the rows of the input are those of its text
same-rows : (bytes text : List ℕ) (marked : Bool) → text ≡ behind_mark bytes → marked ≡ has_mark text → marked ≡ false → rows_of bytes ≡ rows_in text
same-rows bytes text marked is test e = rows_of-unmarked bytes (ap has_mark (sym is) ∙ sym test ∙ e) ∙ ap rows_in (sym is)

pub returns-in-Some-clause-rows : goal.returns-in-Some-clause-rows
returns-in-Some-clause-rows c =
    let written = rw c.in-Some.is at c.in_ok-rows.ensures.rows in
    written-rows c.args.bytes.now c.behind_mark-text.result.now _ c.behind_mark-text.ensures (sym c.has_mark.ensures ∙ c.if-has_mark.false) written.0 written.1

pub returns-in-None-clause-rows : goal.returns-in-None-clause-rows
returns-in-None-clause-rows c = rw (same-rows c.args.bytes.now c.behind_mark-text.result.now c.has_mark.result c.behind_mark-text.ensures c.has_mark.ensures c.if-has_mark.false) c.read_records.ensures.rows

pub returns-in-None-clause-fault : goal.returns-in-None-clause-fault
returns-in-None-clause-fault c = rw (same-rows c.args.bytes.now c.behind_mark-text.result.now c.has_mark.result c.behind_mark-text.ensures c.has_mark.ensures c.if-has_mark.false) c.read_records.ensures.fault
