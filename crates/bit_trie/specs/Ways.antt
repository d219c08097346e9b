-- What a way down a trie leads to.
use Rattle.std.specs.Prelude.{◌≡◌, ◌≤◌, ℕ, Bool, true, false, length, Result, Ok, Err}
use Rattle.zorder.specs.Bits.{low_bits}
use Rattle.bucket_versions.specs.declared.row.Row.{Row}
use Rattle.bucket_versions.specs.declared.row.RowChange.{RowChange}
use Rattle.bucket_versions.specs.Rows.{has_row, after_put, after_gone}
use Rattle.bit_trie.specs.Tries.{Trie, height, changed_at, rows_at}

-- a key with `left` bits leads to a leaf
pub record Fits (left : ℕ) (t : Trie) : Type 0 where
  pub height : height t ≤ left
  pub most : left ≤ 64

-- whether a row is in the leaf to which the last bits of its key lead
abbrev pub has_under : ℕ → Row → Trie → Bool
has_under left r t = has_row r (rows_at (low_bits left r.key) t)

-- how many rows are in that leaf
abbrev pub count_under : ℕ → Row → Trie → ℕ
count_under left r t = length (rows_at (low_bits left r.key) t)

-- the trie with one more row in that leaf (put_under), or with one less (gone_under)
abbrev pub put_under : ℕ → RowChange → Trie → Trie
put_under left c t = changed_at (low_bits left c.row.key) (after_put c) t

abbrev pub gone_under : ℕ → RowChange → Trie → Trie
gone_under left c t = changed_at (low_bits left c.row.key) (after_gone c) t

-- the first row can be removed from t, and the second can be added to u
pub record MayMove (left : ℕ) (from : RowChange) (to_left : ℕ) (to : RowChange) (t u : Trie) : Type 0 where
  pub present : has_under left from.row t ≡ true
  pub absent : has_under to_left to.row u ≡ false

-- 1 if the result is Ok, else 0
abbrev pub once_if : {A E : Type 0} → Result A E → ℕ
once_if (Ok x) = 1
once_if (Err e) = 0
