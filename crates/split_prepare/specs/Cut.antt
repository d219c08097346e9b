-- Rows cut by the names of a leaf's children.
use Rattle.std.specs.Prelude.{◌≡◌, ℕ, ◌-◌, ◌<◌, ◌^◌, Bool, ◌&&◌, List, [], ◌∷◌, map, ⊤}
use Rattle.zorder.specs.Key.{is_under}
use Rattle.zorder.specs.Name.{first_key}
use Rattle.zorder.specs.Tile.{next_key, children}
use Rattle.bucket_versions.specs.declared.row.Row.{Row}
use Rattle.bucket_versions.specs.Rows.{Rows, has_row, rows_between, as_base}

-- the last key under a name
abbrev pub last_key : List Bool → ℕ
last_key name = next_key name - 1

-- the rows whose keys are under a name, from its first key to its last
abbrev pub rows_under : List Bool → List Row → List Row
rows_under name rows = rows_between (first_key name) (last_key name) rows

-- a bucket of the rows under a name, which are its base
abbrev pub cut_out : List Row → List Bool → Rows
cut_out rows name = as_base (rows_under name rows)

-- such a bucket for each child of a name, in order
abbrev pub cut : ℕ → List Bool → List Row → List Rows
cut w name rows = map (cut_out rows) (children w name)

-- the bucket has exactly those of the rows with 64-bit keys that are under the name
abbrev pub HasRowsUnder : List Row → List Bool → Rows → Type 0
HasRowsUnder rows name b = (r : Row) → r.key < 2 ^ 64 → has_row r b.rows ≡ (has_row r rows && is_under name r.key)

-- each bucket has the rows under the name with the same index, and there are as many buckets as names
abbrev pub HaveRowsUnder : List (List Bool) → List Row → List Rows → Type 0
HaveRowsUnder [] rows [] = ⊤
HaveRowsUnder [] rows (b ∷ buckets) = ⊥
HaveRowsUnder (name ∷ names) rows [] = ⊥
HaveRowsUnder (name ∷ names) rows (b ∷ buckets) = HasRowsUnder rows name b × HaveRowsUnder names rows buckets
