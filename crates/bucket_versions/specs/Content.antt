-- The base and the rows that a bucket's content represents.
use Rattle.std.specs.Prelude.{◌≡◌, Bool, true, false, List, if◌then◌else◌, ⊤}
use Rattle.std.specs.Arc.{arc_value}
use Rattle.bucket_versions.specs.declared.row.Row.{Row}
use Rattle.bucket_versions.specs.declared.row_list.RowList.{RowList}
use Rattle.bucket_versions.specs.declared.content.Base.{Base}
use Rattle.bucket_versions.specs.declared.content.Base.TheVariants.{Own, Below, Beside}
use Rattle.bucket_versions.specs.declared.content.Content.{Content}
use Rattle.bucket_versions.specs.Rows.{Rows, IsRows}
use Rattle.bucket_versions.specs.RowList.{rows_under, listed, IsRowList}

-- the rows of a base
abbrev pub base_in : Base → RowList → List Row
base_in Own rows = listed rows
base_in Below rows = rows_under rows.under
base_in (Beside base) rows = (arc_value base).items

-- whether the rows are their own base
abbrev pub is_own : Base → Bool
is_own Own = true
is_own Below = false
is_own (Beside base) = false

-- the base, and the rows now
abbrev pub kept_in : Base → RowList → Rows
kept_in base rows = record { base = base_in base rows; rows = listed rows }

abbrev pub kept : Content → Rows
kept c = kept_in c.base c.rows

-- base and rows are in order
pub record AreKept (c : Content) : Type 0 where
  pub base : IsRows (base_in c.base c.rows)
  pub rows : IsRowList c.rows

-- the base is stored apart if the change keeps it
abbrev pub IsReady : Bool → Base → Type 0
IsReady true base = is_own base ≡ false
IsReady false base = ⊤

-- the base after a change: the same if it is kept, and else the rows themselves
abbrev pub settled : Bool → Base → Base
settled keeps base = if keeps then base else Own
