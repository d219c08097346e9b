-- The subtrees that a search has not opened yet.
use Rattle.std.specs.Prelude.{◌≡◌, ◌≤◌, ◌+◌, ◌-◌, ◌^◌, ℕ, Bool, nat_le, nat_lt, List, length, slice_index_or}
use Rattle.std.specs.List.{flat_map, count_by}
use Rattle.zorder.specs.declared.points.Point.{Point}
use Rattle.zorder.specs.declared.points.Placed.{Placed}
use Rattle.zorder.specs.Distance.{distance, least_distance}
use Rattle.prefix_names.specs.Regions.{region_of}
use Rattle.index_layer.specs.Leaves.{Leaf, all_rows}
use Rattle.plain_list.specs.Queries.{ranked}
use Rattle.plain_list.specs.AtPlaces.{AreOf}
use Rattle.table_share.specs.Objects.{objects_of}
use Rattle.table_share.specs.Subtree.{subtree, leaves_of}
use Rattle.knn_query.specs.Passes.{Keeps}
use Rattle.knn_query.specs.declared.kept.Kept.{Kept}
use Rattle.knn_query.specs.declared.ahead.Ahead.{Ahead}

-- the least squared distance from a point to a name's region
abbrev pub least_to : Point → List Bool → ℕ
least_to p name = least_distance (region_of name) p

-- the leaves whose region may have a point within this squared distance
abbrev pub leaves_within : Point → ℕ → List Leaf → List Leaf
leaves_within p reach leaves = leaves_of (λ name. nat_le (least_to p name) reach) leaves

-- the squared distance of the k-th nearest object
abbrev pub reach_of : Point → ℕ → List Placed → Placed → ℕ
reach_of p k places d = distance (slice_index_or (ranked p places) (k - 1) d).at p

-- how many objects of a list are nearer than this squared distance
abbrev pub number_nearer : Point → ℕ → List Placed → ℕ
number_nearer p reach list = count_by (λ (m : Placed). nat_lt (distance m.at p) reach) list

-- the region is that of the name, and the distance is that of the region
pub record IsAhead (p : Point) (a : Ahead) : Type 0 where
  pub region_is : a.region ≡ region_of a.name
  pub least_is : a.least.0 ≡ least_to p a.name
  pub short : length a.name ≤ 64

-- the leaves below the unopened subtrees, and their objects
abbrev pub leaves_ahead : List Leaf → List Ahead → List Leaf
leaves_ahead leaves ahead = flat_map (λ (a : Ahead). subtree a.name leaves) ahead

abbrev pub objects_ahead : List Leaf → List Ahead → List Placed
objects_ahead leaves ahead = objects_of (all_rows (leaves_ahead leaves ahead))

-- `rest` are objects at their places, and with them the kept objects lead to the nearest of all
pub record Searches (p : Point) (k : ℕ) (places rest : List Placed) (kept : Kept) : Type 0 where
  pub are_of : AreOf places rest
  pub keeps : Keeps p k places rest kept

-- if there are k objects, the search opened at most the leaves that may have a point as near as the k-th
abbrev pub OpensNear : Point → ℕ → List Leaf → ℕ → ℕ → List Placed → Type 0
OpensNear p k leaves before now places = (d : Placed) → k ≤ length places → now ≤ before + length (leaves_within p (reach_of p k places d) leaves)

-- how much work is left below a name
abbrev pub weight_of : Ahead → ℕ
weight_of a = 2 ^ (65 - length a.name) - 1
