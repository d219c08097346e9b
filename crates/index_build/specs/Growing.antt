-- Leaves that are split until they are the wanted ones.
use Rattle.std.specs.Prelude.{◌≡◌, ℕ, Bool, List, [], ◌∷◌, ◌++◌, map, take}
use Rattle.bucket_versions.specs.declared.row.Row.{Row}
use Rattle.index_layer.specs.Leaves.{Leaf}
use Rattle.split_prepare.specs.Cut.{cut_out}

-- the leaf of a name, with the rows under it
abbrev pub leaf_for : List Row → List Bool → Leaf
leaf_for rows name = record { name = name; bucket = cut_out rows name }

-- such a leaf for each name
abbrev pub leaves_for : List Row → List (List Bool) → List Leaf
leaves_for rows names = map (leaf_for rows) names

-- the leaves are the first `done` wanted ones, then `here`, then `later`
abbrev pub HasGrownTo : List Row → List (List Bool) → ℕ → List (List Bool) → List (List Bool) → List Leaf → Type 0
HasGrownTo rows wanted done here later leaves = leaves ≡ leaves_for rows (take done wanted ++ (here ++ later))

-- the leaf of this name comes after the wanted leaves that are done
abbrev pub StandsThere : List Row → List (List Bool) → ℕ → List Bool → List Leaf → Type 0
StandsThere rows wanted done name leaves = (later : List (List Bool)) × HasGrownTo rows wanted done (name ∷ []) later leaves

-- whatever the later leaves are, wanted leaves replaced the leaf of this name, and `done` of them are done
abbrev pub GrowsOn : List Row → List (List Bool) → ℕ → ℕ → List Bool → List Leaf → List Leaf → Type 0
GrowsOn rows wanted before done name old new = (later : List (List Bool)) → HasGrownTo rows wanted before (name ∷ []) later old → HasGrownTo rows wanted done [] later new
