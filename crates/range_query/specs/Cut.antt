-- How leaves and their rows lie to a box.
use Rattle.std.specs.Prelude.{◌≡◌, ◌≤◌, ◌<◌, ◌^◌, ℕ, Bool, not, ◌&&◌, List, length}
use Rattle.zorder.specs.declared.points.Placed.{Placed}
use Rattle.zorder.specs.declared.points.Region.{Region}
use Rattle.prefix_names.specs.Regions.{region_of, meet, lies_in}
use Rattle.bucket_versions.specs.declared.row.Row.{Row}
use Rattle.index_layer.specs.Leaves.{Leaf, all_rows}
use Rattle.plain_list.specs.Queries.{members_in}
use Rattle.table_share.specs.Objects.{objects_of}
use Rattle.table_share.specs.Subtree.{subtree, leaves_of}

-- the region is that of the name
pub record IsAreaOf (name : List Bool) (area : Region) : Type 0 where
  pub is : area ≡ region_of name
  pub short : length name ≤ 64

-- whether the box has some points of a name's region
abbrev pub is_met : Region → List Bool → Bool
is_met region name = meet (region_of name) region

-- the leaves whose region the box meets
abbrev pub leaves_met : Region → List Leaf → List Leaf
leaves_met region leaves = leaves_of (is_met region) leaves

-- whether the box has some points of a name's region, and not all
abbrev pub is_cut : Region → List Bool → Bool
is_cut region name = meet (region_of name) region && not (lies_in (region_of name) region)

-- the leaves whose region the box cuts
abbrev pub leaves_cut : Region → List Leaf → List Leaf
leaves_cut region leaves = leaves_of (is_cut region) leaves

-- how many rows represent an object in the box
abbrev pub number_in : Region → List Row → ℕ
number_in region rows = length (members_in region (objects_of rows))

-- n is the number of rows that represent an object in the box, if this number fits in 64 bits
abbrev pub IsNumberIn : Region → List Row → ℕ → Type 0
IsNumberIn region rows n = number_in region rows < 2 ^ 64 → n ≡ number_in region rows

-- the leaves in the subtree of a name whose region the box meets
abbrev pub below_met : Region → List Bool → List Leaf → List Leaf
below_met region name leaves = leaves_met region (subtree name leaves)

-- the objects in the box that the rows of these leaves represent, one leaf after the other
abbrev pub objects_held : Region → List Leaf → List Placed
objects_held region leaves = members_in region (objects_of (all_rows leaves))

-- the objects in the box below a name
abbrev pub held_below : Region → List Bool → List Leaf → List Placed
held_below region name leaves = objects_held region (below_met region name leaves)

-- n is the number of objects in the box below a name, if this number fits in 64 bits
abbrev pub IsNumberBelow : Region → List Bool → List Leaf → ℕ → Type 0
IsNumberBelow region name leaves n = IsNumberIn region (all_rows (below_met region name leaves)) n
