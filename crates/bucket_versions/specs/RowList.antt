-- The rows that a list represents: its own, or those of the list below with the rows of its delta toggled.
use Rattle.std.specs.Prelude.{◌≡◌, ℕ, ◌+◌, ◌*◌, ◌^◌, ◌<◌, nat_le, Bool, true, false, not, ◌||◌, List, [], length, ⊤, IsTrue}
use Rattle.std.specs.Arc.{arc_value}
use Rattle.bucket_versions.specs.declared.row.Row.{Row}
use Rattle.bucket_versions.specs.declared.row_list.Under.{Under}
use Rattle.bucket_versions.specs.declared.row_list.Under.TheVariants.{Nothing, Shared}
use Rattle.bucket_versions.specs.declared.row_list.RowList.{RowList}
use Rattle.bucket_versions.specs.Rows.{IsRows}
use Rattle.bucket_versions.specs.Delta.{difference}

-- the rows of the list below
abbrev pub rows_under : Under → List Row
rows_under Nothing = []
rows_under (Shared base count) = (arc_value base).items

-- the rows that a list represents
abbrev pub listed : RowList → List Row
listed l = difference (rows_under l.under) l.list.items

-- whether a delta may have n rows: at most 32, or at most four times the square root of the number of rows below
abbrev pub is_short : ℕ → ℕ → Bool
is_short below n = nat_le n 32 || nat_le (n * n) (16 * below)

-- a list may have n rows
abbrev pub MayHave : Under → ℕ → Type 0
MayHave Nothing n = ⊤
MayHave (Shared base count) n = IsTrue (is_short (length (arc_value base).items) n)

-- the count is the number of all rows
abbrev pub IsCounted : Under → List Row → Type 0
IsCounted Nothing list = ⊤
IsCounted (Shared base count) list = count ≡ length (difference (arc_value base).items list)

-- both lists are in order, the lower one has fewer than 2^62 rows, a delta is short, and the count is right
pub record IsListed (u : Under) (rows : List Row) : Type 0 where
  pub under : IsRows (rows_under u)
  pub list : IsRows rows
  pub few : length (rows_under u) < 2 ^ 62
  pub short : MayHave u (length rows)
  pub counted : IsCounted u rows

abbrev pub IsRowList : RowList → Type 0
IsRowList l = IsListed l.under l.list.items

-- there is room for `more` rows
abbrev pub HasRoom : ℕ → RowList → Type 0
HasRoom more l = MayHave l.under (length l.list.items + more)

-- whether no rows stand below a list
abbrev pub is_flat : Under → Bool
is_flat Nothing = true
is_flat (Shared base count) = false

-- a list of so many rows, with none below it, gives way to one above them
abbrev pub most_flat : ℕ
most_flat = 1024

-- whether a list of so many rows is to give way before two more are turned: it is long by itself, or for what is below it
abbrev pub is_full_at : Under → ℕ → Bool
is_full_at Nothing n = nat_le most_flat n
is_full_at (Shared base count) n = not (is_short (length (arc_value base).items) (n + 2))

abbrev pub is_full : RowList → Bool
is_full l = is_full_at l.under (length l.list.items)
