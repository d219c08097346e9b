-- The delta of a bucket: the rows that are in exactly one of its base and its rows.
use Rattle.std.specs.Prelude.{ℕ, ◌+◌, length, Bool, true, false, not, List, [], ◌∷◌, if◌then◌else◌}
use Rattle.std.specs.List.{filter}
use Rattle.bucket_versions.specs.declared.row.Row.{Row}
use Rattle.bucket_versions.specs.declared.row.RowChange.{RowChange}
use Rattle.bucket_versions.specs.Rows.{Rows, IsRows, is_below, same_row, has_row, with_row, without_row, rows_over}

-- the number of rows in exactly one of the base and the rows
abbrev pub delta_len : Rows → ℕ
delta_len b = length (filter (λ r. not (has_row r b.rows)) b.base) + length (filter (λ r. not (has_row r b.base)) b.rows)

-- merges the row and the rows after it with a delta
abbrev pub weave : Row → (List Row → List Row) → List Row → List Row
weave r rest [] = r ∷ rest []
weave r rest (d ∷ delta) = if same_row d r then rest delta else if is_below d r then d ∷ weave r rest delta else r ∷ rest (d ∷ delta)

-- the symmetric difference of two lists in order: the rows in exactly one of them
abbrev pub difference : List Row → List Row → List Row
difference [] delta = delta
difference (r ∷ base) delta = weave r (difference base) delta

-- toggles a row: the rows without it if it is among them, else the rows with it
abbrev pub turn : Row → List Row → List Row
turn r rows = if has_row r rows then without_row r rows else with_row r rows

-- a bucket after a row was toggled; the base is kept, or is the new rows
abbrev pub after_turn : RowChange → Rows → Rows
after_turn c b = rows_over c.keeps_base (turn c.row b.rows) b

-- whether base and delta begin with the same row
abbrev pub heads_meet : List Row → List Row → Bool
heads_meet [] delta = false
heads_meet (r ∷ base) [] = false
heads_meet (r ∷ base) (d ∷ delta) = same_row d r

-- whether the delta's first row comes before the base's first row
abbrev pub delta_leads : List Row → List Row → Bool
delta_leads [] delta = true
delta_leads (r ∷ base) [] = false
delta_leads (r ∷ base) (d ∷ delta) = is_below d r

-- base and delta are in order
pub record AreParts (old turned : List Row) : Type 0 where
  pub base : IsRows old
  pub delta : IsRows turned
