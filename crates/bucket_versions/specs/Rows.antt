-- Rows in order, by key and then by id, none twice.
use Rattle.std.specs.Prelude.{ℕ, suc, nat_le, nat_lt, Bool, not, ◌&&◌, ◌||◌, ◌==◌, List, [], ◌∷◌, if◌then◌else◌, ⊤, IsTrue}
use Rattle.std.specs.List.{filter, list_any}
use Rattle.std.specs.Cmp.Lexicographic.{pointwise}
use Rattle.bucket_versions.specs.declared.row.Row.{Row}
use Rattle.bucket_versions.specs.declared.row.RowChange.{RowChange}

-- what a clause sees of a bucket: its base, and its rows now
pub record Rows : Type 0 where
  pub base : List Row
  pub rows : List Row

-- the order of rows: by key, and then by id
abbrev pub is_below : Row → Row → Bool
is_below a b = nat_lt a.key b.key || ((a.key == b.key) && nat_lt a.id b.id)

-- whether two rows are the same
abbrev pub same_row : Row → Row → Bool
same_row a b = (a.key == b.key) && (a.id == b.id)

-- whether two lists have the same rows
abbrev pub same_rows : List Row → List Row → Bool
same_rows = pointwise same_row

-- each row comes after this one
abbrev pub IsAbove : Row → List Row → Type 0
IsAbove r [] = ⊤
IsAbove r (s ∷ rows) = IsTrue (is_below r s) × IsAbove r rows

-- the rows are in order, so none is there twice
abbrev pub IsRows : List Row → Type 0
IsRows [] = ⊤
IsRows (r ∷ rows) = IsAbove r rows × IsRows rows

-- both lists of a bucket are in order
pub record AreRows (b : Rows) : Type 0 where
  pub base : IsRows b.base
  pub rows : IsRows b.rows

-- whether a row is among these
abbrev pub has_row : Row → List Row → Bool
has_row r rows = list_any (λ s. same_row s r) rows

-- the rows with one more, in order
abbrev pub with_row : Row → List Row → List Row
with_row r [] = r ∷ []
with_row r (s ∷ rows) = if is_below r s then r ∷ s ∷ rows else s ∷ with_row r rows

-- the rows without this one
abbrev pub without_row : Row → List Row → List Row
without_row r rows = filter (λ s. not (same_row s r)) rows

-- the rows whose keys are between two keys, both included
abbrev pub rows_between : ℕ → ℕ → List Row → List Row
rows_between lo hi rows = filter (λ r. nat_le lo r.key && nat_le r.key hi) rows

-- a bucket whose rows are its base
abbrev pub as_base : List Row → Rows
as_base rows = record { base = rows; rows = rows }

-- a bucket with other rows on the same base
abbrev pub with_rows : List Row → Rows → Rows
with_rows rows b = record { base = b.base; rows = rows }

-- a bucket after a row was added (put_row), and after one was removed (gone_row); the base is the same
abbrev pub put_row : Row → Rows → Rows
put_row r b = with_rows (with_row r b.rows) b

abbrev pub gone_row : Row → Rows → Rows
gone_row r b = with_rows (without_row r b.rows) b

-- a bucket with other rows; its base is kept, or is the new rows
abbrev pub rows_over : Bool → List Row → Rows → Rows
rows_over keeps rows b = record { base = if keeps then b.base else rows; rows = rows }

-- a bucket after a row was added (after_put), and after one was removed (after_gone)
abbrev pub after_put : RowChange → Rows → Rows
after_put c b = rows_over c.keeps_base (with_row c.row b.rows) b

abbrev pub after_gone : RowChange → Rows → Rows
after_gone c b = rows_over c.keeps_base (without_row c.row b.rows) b

-- how many rows at the front of the list come before this row
abbrev pub row_place : Row → List Row → ℕ
row_place r [] = 0
row_place r (s ∷ rows) = if is_below s r then suc (row_place r rows) else 0
