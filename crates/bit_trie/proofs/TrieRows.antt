-- Rows in the leaf on a path.
use Rattle.std.proofs.Common.{◌≡◌, Bool, true, false, ◌||◌, not, List, [], ◌∷◌, suc, max, Some, refl, ◌∙◌, ap, cond}
use Rattle.std.proofs.lemmas.Option.{same_Some}
use Rattle.bucket_versions.specs.declared.row.Row.{Row}
use Rattle.bucket_versions.specs.declared.row.RowChange.{RowChange}
use Rattle.bucket_versions.specs.Rows.{Rows, has_row, same_row, without_row, after_gone}
use Rattle.bucket_versions.proofs.RowOrder.{not_first}
use Rattle.bit_trie.specs.Tries.{Trie, tip, fork, height, bucket_at, rows_at, changed_at}

pub rows-bucket : (path : List Bool) (t : Trie) (b : Rows) → bucket_at path t ≡ Some b → rows_at path t ≡ b.rows
rows-bucket path (tip a) b e = ap (λ (r : Rows). r.rows) (same_Some a b e)
rows-bucket [] (fork z o) b e = absurd (cc e)
rows-bucket (true ∷ path) (fork z o) b e = rows-bucket path o b e
rows-bucket (false ∷ path) (fork z o) b e = rows-bucket path z b e

-- a removal adds no row
absent-without : (to from : Row) (rows : List Row) → has_row to rows ≡ false → has_row to (without_row from rows) ≡ false
absent-without to from [] none = refl
absent-without to from (s ∷ rows) none =
    let other = not_first to s rows none in
    by_test (not (same_row s from)) (absent-without to from rows other.1)
  where
    by_test : (b : Bool) → has_row to (without_row from rows) ≡ false → has_row to (cond b (s ∷ without_row from rows) (without_row from rows)) ≡ false
    by_test true rest = (λ i. (not_first to s rows none).0 i || has_row to (without_row from rows)) ∙ rest
    by_test false rest = rest

pub absent-after : (path other : List Bool) (to : Row) (from : RowChange) (t : Trie) → has_row to (rows_at path t) ≡ false → has_row to (rows_at path (changed_at other (after_gone from) t)) ≡ false
absent-after path other to from (tip a) none = absent-without to from.row a.rows none
absent-after [] [] to from (fork z o) none = none
absent-after [] (true ∷ other) to from (fork z o) none = none
absent-after [] (false ∷ other) to from (fork z o) none = none
absent-after (bit ∷ path) [] to from (fork z o) none = none
absent-after (true ∷ path) (true ∷ other) to from (fork z o) none = absent-after path other to from o none
absent-after (true ∷ path) (false ∷ other) to from (fork z o) none = none
absent-after (false ∷ path) (true ∷ other) to from (fork z o) none = none
absent-after (false ∷ path) (false ∷ other) to from (fork z o) none = absent-after path other to from z none

pub height-changed : (path : List Bool) (change : Rows → Rows) (t : Trie) → height (changed_at path change t) ≡ height t
height-changed path change (tip a) = refl
height-changed [] change (fork z o) = refl
height-changed (true ∷ path) change (fork z o) = ap (λ n. suc (max (height z) n)) (height-changed path change o)
height-changed (false ∷ path) change (fork z o) = ap (λ n. suc (max n (height o))) (height-changed path change z)
