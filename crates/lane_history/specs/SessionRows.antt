-- The rows of each session, and the place of a row in a history.
use Rattle.std.specs.Prelude.{ℕ, ◌+◌, ◌==◌, if◌then◌else◌, List, [], ◌∷◌, Option, Some, None}
use Rattle.plain_list.specs.declared.ops.Op.{Op}
use Rattle.plain_list.specs.declared.entries.Entry.{Entry}
use Rattle.plain_list.specs.declared.entries.Entry.TheVariants.{Fail, Call, Begin, Install, Abandon}
use Rattle.csv_rows.specs.declared.rows.InRow.{InRow}

-- the rows of a session with their numbers, if the first row has this number
abbrev pub session_rows_from : ℕ → ℕ → List InRow → List (ℕ × Op)
session_rows_from row s [] = []
session_rows_from row s (r ∷ rows) = if r.session == s then (row, r.op) ∷ session_rows_from (row + 1) s rows else session_rows_from (row + 1) s rows

abbrev pub session_rows : List InRow → ℕ → List (ℕ × Op)
session_rows rows s = session_rows_from 1 s rows

-- the place of a row's call, if n calls come before this history
abbrev pub row_place_from : ℕ → ℕ → List Entry → Option ℕ
row_place_from n row [] = None
row_place_from n row (Call session r op ∷ h) = if r == row then Some (n + 1) else row_place_from (n + 1) row h
row_place_from n row (Begin number name ∷ h) = row_place_from n row h
row_place_from n row (Install number ∷ h) = row_place_from n row h
row_place_from n row (Abandon number ∷ h) = row_place_from n row h
row_place_from n row (Fail cell lost ∷ h) = row_place_from n row h

abbrev pub row_place : ℕ → List Entry → Option ℕ
row_place row h = row_place_from 0 row h
