-- What contracts see of a view.
use Rattle.std.specs.Prelude.{ℕ, List}
use Rattle.index_layer.specs.Leaves.{Leaf}

-- the leaves of its index, and how many calls the history had before it
pub record Seen : Type 0 where
  pub leaves : List Leaf
  pub place : ℕ
