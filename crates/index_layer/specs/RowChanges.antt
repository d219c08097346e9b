-- How one row more or less changes the leaves.
use Rattle.std.specs.Prelude.{◌≡◌, ℕ, Bool, List, length, Some, IfSome}
use Rattle.bucket_versions.specs.declared.row.Row.{Row}
use Rattle.bucket_versions.specs.declared.row.RowChange.{RowChange}
use Rattle.bucket_versions.specs.Rows.{Rows, has_row, after_put, after_gone}
use Rattle.index_layer.specs.Leaves.{Leaf, leaf_under, replaced}

-- whether the row is in the leaf that its key is under
abbrev pub Holds : Row → List Leaf → Bool → Type 0
Holds r leaves there = IfSome (leaf_under r.key leaves) (λ (l : Leaf). has_row r l.bucket.rows ≡ there)

-- the leaf that the key is under has `count` rows
abbrev pub CountAt : ℕ → ℕ → List Leaf → Type 0
CountAt key count leaves = (l : Leaf) → leaf_under key leaves ≡ Some l → count ≡ length l.bucket.rows

-- only the bucket of the leaf that the key is under changes
pub record ChangesAt (key : ℕ) (change : Rows → Rows) (old new : List Leaf) : Type 0 where
  pub leaf : Leaf
  pub found : leaf_under key old ≡ Some leaf
  pub leaves : new ≡ replaced leaf.name (change leaf.bucket) old

-- one row is removed from the leaf of its key, and then another is added to the leaf of its own key
pub record Moves (from to : RowChange) (old new : List Leaf) : Type 0 where
  pub between : List Leaf
  pub takes : ChangesAt from.row.key (after_gone from) old between
  pub puts : ChangesAt to.row.key (after_put to) between new
