-- A map from first keys to leaves, seen as the list of these leaves.
use Rattle.std.specs.Prelude.{◌≡◌, ◌≢◌, ℕ, ◌<◌, Bool, true, false, List, [], ◌∷◌, ◌++◌, length, map, if◌then◌else◌, Option, Some}
use Rattle.std.specs.List.{find}
use Rattle.std.specs.Option.{option_map}
use Rattle.zorder.specs.Name.{first_key}
use Rattle.zorder.specs.SameName.{same_name}
use Rattle.zorder.specs.Tile.{Tile}
use Rattle.recovery.specs.declared.leaf_map.MarkedLeaf.{MarkedLeaf}

-- The leaves of a map's entries.
abbrev pub leaves_of : List (ℕ × MarkedLeaf) → List MarkedLeaf
leaves_of entries = map (λ e. e.1) entries

-- A leaf as an entry.
abbrev pub keyed : MarkedLeaf → ℕ × MarkedLeaf
keyed l = (first_key l.name, l)

abbrev pub names_of : List MarkedLeaf → List (List Bool)
names_of leaves = map (λ l. l.name) leaves

-- The key of each leaf is its first key, and the leaves tile the key space.
pub record IsLeafMap (entries : List (ℕ × MarkedLeaf)) : Type 0 where
  pub keys : entries ≡ map keyed (leaves_of entries)
  pub tile : Tile (names_of (leaves_of entries))

-- The number of the split that was last begun of the leaf with this name.
abbrev pub split_at : List MarkedLeaf → List Bool → Option ℕ
split_at leaves name = option_map (λ l. l.split) (find (λ l. same_name l.name name) leaves)

-- The leaf, marked with this split if it has this name.
abbrev pub begun_at : List Bool → ℕ → MarkedLeaf → MarkedLeaf
begun_at name number l = if same_name l.name name then record { name = name; split = number } else l

-- The leaves. The one with this name is marked with this split.
abbrev pub with_begun : List Bool → ℕ → List MarkedLeaf → List MarkedLeaf
with_begun name number leaves = map (begun_at name number) leaves

-- A leaf of which no split was begun.
abbrev pub new_leaf : List Bool → MarkedLeaf
new_leaf name = record { name = name; split = 0 }

-- The leaves. The one with this name is replaced by its two halves.
abbrev pub halved : List Bool → List MarkedLeaf → List MarkedLeaf
halved name [] = []
halved name (l ∷ leaves) = if same_name l.name name then new_leaf (name ++ false ∷ []) ∷ new_leaf (name ++ true ∷ []) ∷ leaves else l ∷ halved name leaves

-- Each leaf other than this one keeps its mark.
abbrev pub KeepsMarks : List Bool → List MarkedLeaf → List MarkedLeaf → Type 0
KeepsMarks name old new = (other : List Bool) (number : ℕ) → other ≢ name → split_at old other ≡ Some number → split_at new other ≡ Some number

-- The list comes from `leaves` by halving a leaf that had this mark.
pub record HasHalved (name : List Bool) (split : ℕ) (leaves halves : List MarkedLeaf) : Type 0 where
  pub tile : Tile (names_of leaves)
  pub short : length name < 64
  pub mark : split_at leaves name ≡ Some split
  pub is : halves ≡ halved name leaves
