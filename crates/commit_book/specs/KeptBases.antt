-- The base under a leaf while its split is open.
use Rattle.std.specs.Prelude.{◌≡◌, ℕ, ◌&&◌, Bool, List, ◌∷◌, ◌++◌, Some}
use Rattle.zorder.specs.Key.{is_under}
use Rattle.zorder.specs.declared.points.Placed.{Placed}
use Rattle.bucket_versions.specs.declared.row.Row.{Row}
use Rattle.bucket_versions.specs.Rows.{IsRows, has_row}
use Rattle.index_layer.specs.Leaves.{Leaf, leaf_named}
use Rattle.index_layer.specs.Stands.{places_have}
use Rattle.plain_list.specs.declared.entries.Entry.{Entry}
use Rattle.plain_list.specs.declared.entries.Entry.TheVariants.{Begin}
use Rattle.plain_list.specs.State.{State, split_name, state_after}
use Rattle.plain_list.specs.World.{places_of}
use Rattle.plain_list.specs.History.{world_after}

-- the base of a leaf has exactly the rows of a world that are under its name, in order
pub record HasBaseOf (places : List Placed) (leaf : Leaf) : Type 0 where
  pub in_order : IsRows leaf.bucket.base
  pub rows : (r : Row) → has_row r leaf.bucket.base ≡ (places_have places r && is_under leaf.name r.key)

-- the leaf of a name has the base of this world
pub record KeepsBase (leaves : List Leaf) (places : List Placed) (name : List Bool) : Type 0 where
  pub leaf : Leaf
  pub named : leaf_named name leaves ≡ Some leaf
  pub base : HasBaseOf places leaf

-- each leaf whose split is still open has as its base the rows of the world in which the split began
abbrev pub KeepsBases : ℕ → State → List Leaf → List Entry → Type 0
KeepsBases w s leaves entries =
    (before after : List Entry) (number : ℕ) (name : List Bool) → entries ≡ before ++ Begin number name ∷ after
    → split_name (state_after w s entries).splits number ≡ Some name → KeepsBase leaves (places_of (world_after s.world before)) name
