use Rattle.std.proofs.Common.{◌≡◌, length}
use Rattle.csv_rows.specs.Tables.{HasReadRows}
use Rattle.csv_rows.proofs.tables.read_below.Given as goal

abbrev pub ghost-read_row : goal.ghost-read_row
ghost-read_row g a = g.text

abbrev pub invariant-loop-before : goal.invariant-loop-before
invariant-loop-before g l = record {
  knows : g.R.ReadsRow.knows l.kind l.rows.items;
  read : HasReadRows g.R.ReadsRow.table g.text l.reader l.rows.items;
  count : length l.rows.items ≡ l.before;
}
