-- The rows of a CSV text.
use Rattle.std.specs.Prelude.{ℕ, ◌+◌, nat_lt, Bool, List, [], ◌∷◌, drop, if◌then◌else◌, Result, Ok, Err, nat_eq}
use Rattle.std.specs.List.{starts_with}
use Rattle.std.specs.Cmp.Lexicographic.{pointwise}
use Rattle.csv.specs.Reading.{default_config, records}
use Rattle.csv_rows.specs.declared.rows.InRow.{InRow}
use Rattle.csv_rows.specs.declared.rows.RowsFault.{RowsFault}
use Rattle.csv_rows.specs.declared.rows.RowsFault.TheVariants.{Header, Csv, Field, TooMany}
use Rattle.csv_rows.specs.declared.rows.Wrong.{Wrong}
use Rattle.csv_rows.specs.declared.rows.Wrong.TheVariants.{Length, Column}
use Rattle.csv_rows.specs.Columns.{header_fields}
use Rattle.csv_rows.specs.Fields.{row_of, is_text}

-- whether a text begins with the byte order mark
abbrev pub has_mark : List ℕ → Bool
has_mark bytes = starts_with nat_eq bytes (0xEF ∷ 0xBB ∷ 0xBF ∷ [])

-- the text after its byte order mark, or the whole text if it has none
abbrev pub behind_mark : List ℕ → List ℕ
behind_mark bytes = if has_mark bytes then drop 3 bytes else bytes

abbrev pub is_header : List (List ℕ) → Bool
is_header fields = pointwise is_text fields header_fields

-- the rows with one more in front
abbrev pub with_row : InRow → Result (List InRow) RowsFault → Result (List InRow) RowsFault
with_row row (Ok rows) = Ok (row ∷ rows)
with_row row (Err e) = Err e

-- the rows with some more in front
abbrev pub with_rows : List InRow → Result (List InRow) RowsFault → Result (List InRow) RowsFault
with_rows [] more = more
with_rows (row ∷ rows) more = with_row row (with_rows rows more)

-- the fault for a row of this number
abbrev pub fault_at : ℕ → Wrong → RowsFault
fault_at number Length = Csv number
fault_at number (Column column) = Field number column

-- a row and the rows after it, or the fault of the row
abbrev pub row_then : ℕ → Result InRow Wrong → Result (List InRow) RowsFault → Result (List InRow) RowsFault
row_then number (Ok row) more = with_row row more
row_then number (Err wrong) more = Err (fault_at number wrong)

-- the rows of records, if the first record has this number; row numbers end at 65,536
abbrev pub rows_from : ℕ → List (List (List ℕ)) → Result (List InRow) RowsFault
rows_from number [] = Ok []
rows_from number (fields ∷ more) = if nat_lt 65536 number then Err TooMany else row_then number (row_of fields) (rows_from (number + 1) more)

-- the rows after the header
abbrev pub rows_behind_header : List (List (List ℕ)) → Result (List InRow) RowsFault
rows_behind_header [] = Err Header
rows_behind_header (fields ∷ more) = if is_header fields then rows_from 1 more else Err Header

-- the rows of a text, or the first fault; a text that begins with two byte order marks has no header
unfoldable pub rows_of : List ℕ → Result (List InRow) RowsFault
rows_of bytes = if has_mark (behind_mark bytes) then Err Header else rows_behind_header (records default_config (behind_mark bytes))
