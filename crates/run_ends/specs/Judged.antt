-- What an input contains: rows to play, or why there are none.
use Rattle.std.specs.Prelude.{ℕ, nat_lt, List, length, if◌then◌else◌, Result, Ok, Err}
use Rattle.csv_rows.specs.declared.rows.InRow.{InRow}
use Rattle.csv_rows.specs.declared.rows.RowsFault.{RowsFault}
use Rattle.csv_rows.specs.declared.rows.RowsFault.TheVariants as fault
use Rattle.csv_rows.specs.Rows.{rows_of}
use Rattle.run_ends.specs.declared.refusals.Refusal.{Refusal}
use Rattle.run_ends.specs.declared.refusals.Refusal.TheVariants as refusal
use Rattle.run_ends.specs.Limits.{most_bytes}

-- the refusal for a fault of a table's text
abbrev pub refusal_of : RowsFault → Refusal
refusal_of fault.Header = refusal.Header
refusal_of (fault.Csv row) = refusal.Csv row
refusal_of (fault.Field row column) = refusal.Field row column
refusal_of fault.TooMany = refusal.ManyRows
refusal_of fault.Memory = refusal.Memory

abbrev pub judged_rows : Result (List InRow) RowsFault → Result (List InRow) Refusal
judged_rows (Ok rows) = Ok rows
judged_rows (Err e) = Err (refusal_of e)

-- the rows of an input that isn't too long, or the first thing that is wrong with it
abbrev pub judged : List ℕ → Result (List InRow) Refusal
judged input = if nat_lt most_bytes (length input) then Err refusal.LongInput else judged_rows (rows_of input)
