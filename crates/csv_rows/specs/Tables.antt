-- A text of records: a header, and rows, each of which may depend on the rows before it.
use Rattle.std.specs.Prelude.{◌≡◌, ℕ, ◌+◌, nat_le, Bool, List, [], ◌∷◌, ◌++◌, length, if◌then◌else◌, Result, Ok, Err}
use Rattle.std.specs.Borrow.{Bor}
use Rattle.std.specs.Cmp.Lexicographic.{pointwise}
use Rattle.csv.specs.Reading.{default_config, records, strip_bom}
use Rattle.csv.specs.declared.reader.Reader.{Reader}
use Rattle.csv_rows.specs.declared.rows.RowsFault.{RowsFault}
use Rattle.csv_rows.specs.declared.rows.RowsFault.TheVariants.{Header, TooMany}
use Rattle.csv_rows.specs.declared.rows.Wrong.{Wrong}
use Rattle.csv_rows.specs.Fields.{is_text}
use Rattle.csv_rows.specs.Records.{StandsBehind}
use Rattle.csv_rows.specs.Rows.{has_mark, behind_mark, fault_at}

-- the fields of the header, the greatest number of rows, and what a record says after the rows before it, or what is
-- wrong with it
pub record Table (T : Type 0) : Type 0 where
  pub header : List (List ℕ)
  pub most : ℕ
  pub row_of : List T → List (List ℕ) → Result T Wrong

-- the rows with one more, or the fault of the row of this number
abbrev pub with_row_at : {T : Type 0} → ℕ → List T → Result T Wrong → Result (List T) RowsFault
with_row_at number earlier (Ok row) = Ok (earlier ++ row ∷ [])
with_row_at number earlier (Err wrong) = Err (fault_at number wrong)

-- the rows with one more record, or the first fault
abbrev pub read_one : {T : Type 0} → Table T → Result (List T) RowsFault → List (List ℕ) → Result (List T) RowsFault
read_one table (Err fault) fields = Err fault
read_one table (Ok earlier) fields = if nat_le table.most (length earlier) then Err TooMany else with_row_at (length earlier + 1) earlier (table.row_of earlier fields)

-- the rows with more records, or the first fault
abbrev pub read_more : {T : Type 0} → Table T → Result (List T) RowsFault → List (List (List ℕ)) → Result (List T) RowsFault
read_more table so_far [] = so_far
read_more table so_far (fields ∷ more) = read_more table (read_one table so_far fields) more

-- whether a record's fields are those of the header
abbrev pub is_header_of : {T : Type 0} → Table T → List (List ℕ) → Bool
is_header_of table fields = pointwise is_text fields table.header

-- the rows after the header
abbrev pub rows_of_records : {T : Type 0} → Table T → List (List (List ℕ)) → Result (List T) RowsFault
rows_of_records table [] = Err Header
rows_of_records table (fields ∷ more) = if is_header_of table fields then read_more table (Ok []) more else Err Header

-- the rows of a text, or the first fault; a text that begins with two byte order marks has no header
unfoldable pub rows_of_text : {T : Type 0} → Table T → List ℕ → Result (List T) RowsFault
rows_of_text table bytes = if has_mark (behind_mark bytes) then Err Header else rows_of_records table (records default_config (behind_mark bytes))

-- the rows of a text that begins with no mark
abbrev pub rows_in_table : {T : Type 0} → Table T → List ℕ → Result (List T) RowsFault
rows_in_table table text = rows_of_records table (records default_config (strip_bom text))

-- a reader has read the header and then these rows, so each later record is read after them
pub record HasReadRows {T : Type 0} (table : Table T) (text : List ℕ) (reader : Reader (Bor (List ℕ))) (rows : List T) : Type 0 where
  pub records : List (List (List ℕ))
  pub stands : StandsBehind text records reader
  pub so_far : (more : List (List (List ℕ))) → rows_of_records table (records ++ more) ≡ read_more table (Ok rows) more
