-- The leaves whose names pass a test.
use Rattle.std.specs.Prelude.{ℕ, Bool, List, nat_le, nat_lt, ◌&&◌}
use Rattle.std.specs.List.{filter}
use Rattle.zorder.specs.Name.{first_key}
use Rattle.zorder.specs.Tile.{next_key}
use Rattle.index_layer.specs.Leaves.{Leaf}
pub use Rattle.index_layer.specs.Subtree.{subtree}

-- the leaves whose names pass a test
abbrev pub leaves_of : (List Bool → Bool) → List Leaf → List Leaf
leaves_of passes leaves = filter (λ (l : Leaf). passes l.name) leaves

-- whether some key from `lo` to `hi` is under a name
abbrev pub shares_key : ℕ → ℕ → List Bool → Bool
shares_key lo hi name = nat_le (first_key name) hi && nat_lt lo (next_key name)

-- the leaves that share a key with a range
abbrev pub leaves_between : ℕ → ℕ → List Leaf → List Leaf
leaves_between lo hi leaves = leaves_of (shares_key lo hi) leaves
