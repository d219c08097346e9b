-- The leaves of the list, as contracts see them.
use Rattle.std.specs.Prelude.{◌≡◌, ◌<◌, ℕ, Bool, List, map, length, slice_index_or}
use Rattle.std.specs.Arc.{arc_value}
use Rattle.index_layer.specs.Leaves.{Leaf}
use Rattle.flat_index.specs.declared.leaf.FlatLeaf.{FlatLeaf}

-- a leaf as contracts see it
abbrev pub seen_leaf : FlatLeaf → Leaf
seen_leaf l = record { name = l.name; bucket = arc_value l.bucket }

-- all leaves as contracts see them
abbrev pub seen : List FlatLeaf → List Leaf
seen leaves = map seen_leaf leaves

-- the leaf at a place has this name
pub record StandsAt (leaves : List FlatLeaf) (place : ℕ) (name : List Bool) : Type 0 where
  pub within : place < length leaves
  pub named : (d : Leaf) → (slice_index_or (seen leaves) place d).name ≡ name
