-- The invariant of each table.
use Rattle.std.specs.Prelude.{◌≡◌, ℕ, List}
use Rattle.std.specs.List.{AllByRecursion}
use Rattle.plain_list.specs.World.{places_of, IsWorld}
use Rattle.index_layer.specs.Leaves.{Leaf}
use Rattle.index_layer.specs.Stands.{HasRowsOf}
use Rattle.point_table.specs.Crowds.{crowded_of}
use Rattle.point_table.specs.TableView.{TableView}
use Rattle.point_table.specs.declared.table.PointTable.TheInside.{Inside}

-- the objects of the map are the rows of the leaves, and `crowded` has exactly the leaves that are to be split
pub record IsTable {I P : Type 0} (leaves : I → List Leaf) (w : ℕ) (t : Inside I P) : Type 0 where
  pub world : IsWorld t.members
  pub rows : AllByRecursion (HasRowsOf (places_of t.members)) (leaves t.index)
  pub crowded : t.crowded.names ≡ crowded_of w t.size (leaves t.index)

abbrev pub table_of : {I P : Type 0} → (I → List Leaf) → Inside I P → TableView
table_of leaves t = record { leaves = leaves t.index; world = t.members; size = t.size }
