-- What contracts see of a table.
use Rattle.std.specs.Prelude.{◌≡◌, ℕ, Bool, ◌&&◌, not, List, Option, Some}
use Rattle.std.specs.List.{find}
use Rattle.bucket_versions.specs.Rows.{Rows}
use Rattle.plain_list.specs.World.{World, places_of}
use Rattle.plain_list.specs.Size.{is_over}
use Rattle.plain_list.specs.State.{OpenSplit, is_splitting}
use Rattle.index_layer.specs.Leaves.{Leaf, names_of, leaf_named}

-- the leaves of the index, the world that they stand for, and the bucket size in rows
pub record TableView : Type 0 where
  pub leaves : List Leaf
  pub world : World
  pub size : ℕ

-- the first leaf in key order that is over the size, has bits left and is not one of these open splits
abbrev pub first_over : ℕ → List OpenSplit → TableView → Option (List Bool)
first_over w splits t = find (λ name. is_over w t.size (places_of t.world) name && not (is_splitting splits name)) (names_of t.leaves)

-- the leaf of a name has this bucket
abbrev pub HasBucket : List Bool → TableView → Rows → Type 0
HasBucket name t bucket = leaf_named name t.leaves ≡ Some (record { name = name; bucket = bucket })
