-- Which of a text's records a reader has read.
use Rattle.std.specs.Prelude.{◌≡◌, ℕ, ◌+◌, List, [], ◌∷◌, ◌++◌, length, Option, Some, Bool, true, Result}
use Rattle.std.specs.Bool.{MatchBool}
use Rattle.std.specs.Borrow.{Bor}
use Rattle.std.specs.List.{AllByRecursion}
use Rattle.csv.specs.Reading.{Reached, Ready, default_config, is_flexible, records, source_of, strip_bom}
use Rattle.csv.specs.declared.parser.State.TheVariants as st
use Rattle.csv.specs.declared.reader.Reader.{Reader}
use Rattle.csv.specs.declared.reader.Trim.TheVariants as trim
use Rattle.csv_rows.specs.InRows.{IsInRow}
use Rattle.csv_rows.specs.Rows.{rows_behind_header, rows_from, with_rows}
use Rattle.csv_rows.specs.declared.rows.InRow.{InRow}
use Rattle.csv_rows.specs.declared.rows.RowsFault.{RowsFault}

-- the bytes that are left in a slice
abbrev pub slice_left : Bor (List ℕ) → Option (List ℕ)
slice_left s = Some s.now

-- the reader has read these records of the text, and takes records of any length
pub record StandsBehind (text : List ℕ) (records : List (List (List ℕ))) (reader : Reader (Bor (List ℕ))) : Type 0 where
  pub trim : reader.trim ≡ trim.None
  pub ready : Ready reader
  pub flexible : is_flexible reader ≡ true
  pub config : reader.config ≡ default_config
  pub left : List ℕ
  pub source : source_of slice_left reader ≡ Some left
  pub reached : Reached default_config st.StartRecord (strip_bom text) records reader.state left

-- a read of the next record: it finds one more, or the records so far are all
abbrev pub TakesRecord : Reader (Bor (List ℕ)) → Reader (Bor (List ℕ)) → Bool → List (List ℕ) → Type 0
TakesRecord old new found fields = (text : List ℕ) (so_far : List (List (List ℕ))) → StandsBehind text so_far old
    → MatchBool found (StandsBehind text (so_far ++ fields ∷ []) new) (records default_config (strip_bom text) ≡ so_far)

-- The records so far are a header and these rows, so each later record is read as a row after them. Without a record
-- there is no row.
abbrev pub SoFar : List (List (List ℕ)) → List InRow → Type 0
SoFar [] rows = rows ≡ []
SoFar (r ∷ rs) rows = (more : List (List (List ℕ))) → rows_behind_header ((r ∷ rs) ++ more) ≡ with_rows rows (rows_from (length (r ∷ rs)) more)

-- the reader has read the header and then these rows; the rows are one fewer than the records
pub record HasRead (text : List ℕ) (reader : Reader (Bor (List ℕ))) (rows : List InRow) (number : ℕ) : Type 0 where
  pub first : List (List ℕ)
  pub rest : List (List (List ℕ))
  pub stands : StandsBehind text (first ∷ rest) reader
  pub count : number ≡ length (first ∷ rest)
  pub so_far : SoFar (first ∷ rest) rows
  pub good : AllByRecursion IsInRow rows
  pub fewer : length rows + 1 ≡ number

-- the rows of a text
abbrev pub rows_in : List ℕ → Result (List InRow) RowsFault
rows_in text = rows_behind_header (records default_config (strip_bom text))
