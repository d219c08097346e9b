-- Rows and a base, through a change that keeps the base or doesn't.
use Rattle.std.proofs.Common.{◌≡◌, ◌∙◌, ℕ, Bool, true, false, List, [], ap, sym}
use mathlib.Core.Bool.{true≢false}
use Rattle.bucket_versions.specs.declared.row.Row.{Row}
use Rattle.bucket_versions.specs.declared.row_list.RowList.{RowList}
use Rattle.bucket_versions.specs.declared.content.Base.{Base}
use Rattle.bucket_versions.specs.declared.content.Base.TheVariants.{Own, Below, Beside}
use Rattle.bucket_versions.specs.Rows.{IsRows, AreRows, as_base, rows_between}
use Rattle.bucket_versions.specs.Delta.{delta_len, difference}
use Rattle.bucket_versions.specs.RowList.{rows_under, listed, IsRowList}
use Rattle.bucket_versions.specs.Content.{base_in, kept_in, IsReady, settled}
use Rattle.bucket_versions.proofs.RowSets.{IsRows-difference, difference-none, difference-between, length-delta}

-- the rows of a list rise
pub IsRows-listed : (l : RowList) → IsRowList l → IsRows (listed l)
IsRows-listed l is = IsRows-difference (rows_under l.under) l.list.items is.under is.list

pub kept_rising : (b : Base) (l : RowList) → IsRows (base_in b l) → IsRowList l → AreRows (kept_in b l)
kept_rising b l base is = record { base = base; rows = IsRows-listed l is }

-- a base is in order after a change of rows that keeps it apart, and after one that makes the rows the base
pub base_rising : (keeps : Bool) (b : Base) (old now : RowList) → IsReady keeps b → rows_under now.under ≡ rows_under old.under → IsRows (base_in b old) → IsRowList now
    → IsRows (base_in (settled keeps b) now)
base_rising true Own old now ready under rising is = absurd (true≢false ready)
base_rising true Below old now ready under rising is = is.under
base_rising true (Beside base) old now ready under rising is = rising
base_rising false b old now ready under rising is = IsRows-listed now is

-- rows that are their own base have no delta
pub delta-none : (rows : List Row) → IsRows rows → delta_len (as_base rows) ≡ 0
delta-none rows rising =
    sym (length-delta rows [] rising tt ∙ ap (λ (l : List Row). delta_len (record { base = rows; rows = l })) (difference-none rows))

-- where no row of a delta lies between two keys, the rows there are the base's
pub between-base : (lo hi : ℕ) (base delta : List Row) → IsRows base → IsRows delta → rows_between lo hi delta ≡ [] → rows_between lo hi (difference base delta) ≡ rows_between lo hi base
between-base lo hi base delta rising other none =
    sym (difference-between lo hi base delta rising other) ∙ ap (difference (rows_between lo hi base)) none ∙ difference-none (rows_between lo hi base)
