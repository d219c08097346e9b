-- Names of leaves that come from the whole space by splits, and folded buckets.
use Rattle.std.specs.Prelude.{◌≡◌, ℕ, ◌%◌, Bool, List, length}
use Rattle.std.specs.List.{AllByRecursion}
use Rattle.zorder.specs.Tile.{Tile}
use Rattle.bucket_versions.specs.Rows.{as_base}
use Rattle.index_layer.specs.Leaves.{Leaf}

-- the names tile the key space, and the length of each is a multiple of w, the bits of one split
pub record IsGrown (w : ℕ) (names : List (List Bool)) : Type 0 where
  pub tile : Tile names
  pub splits : AllByRecursion (λ (name : List Bool). length name % w ≡ 0) names

-- the leaf's rows are its bucket's base
abbrev pub IsFolded : Leaf → Type 0
IsFolded l = l.bucket ≡ as_base l.bucket.rows
