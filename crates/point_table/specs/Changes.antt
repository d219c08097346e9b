-- An index with the leaf of one name changed.
use Rattle.std.specs.Prelude.{◌≡◌, ◌⊎◌, ℕ, Bool, true, false, List, [], ◌∷◌, Option, Some, None, map, ⊤}
use Rattle.bucket_versions.specs.declared.row.Row.{Row}
use Rattle.bucket_versions.specs.Rows.{Rows}
use Rattle.index_layer.specs.Leaves.{Leaf, leaf_under, replaced}
use Rattle.index_layer.specs.RowChanges.{Holds}
use Rattle.plain_list.specs.State.{OpenSplit, is_splitting}
use Rattle.point_table.specs.Crowds.{is_crowded}

-- the leaf of a key has the changed bucket, and `crowded` says whether it is to be split then
pub record ChangesLeaf (w size key : ℕ) (change : Rows → Rows) (old new : List Leaf) (name : List Bool) (crowded : Bool) : Type 0 where
  pub leaf : Leaf
  pub found : leaf_under key old ≡ Some leaf
  pub name_is : name ≡ leaf.name
  pub leaves : new ≡ replaced leaf.name (change leaf.bucket) old
  pub crowded_is : crowded ≡ is_crowded w size (record { name = leaf.name; bucket = change leaf.bucket })

-- a leaf's name, and the base of its bucket if its split is open
pub record LeafBase : Type 0 where
  pub name : List Bool
  pub base : Option (List Row)

abbrev pub open_base : Bool → List Row → Option (List Row)
open_base true base = Some base
open_base false base = None

abbrev pub base_of : List OpenSplit → Leaf → LeafBase
base_of splits l = record { name = l.name; base = open_base (is_splitting splits l.name) l.bucket.base }

-- the names of the leaves, with the bases of those whose splits are open
abbrev pub bases_of : List OpenSplit → List Leaf → List LeafBase
bases_of splits leaves = map (base_of splits) leaves

-- a leaf is unchanged, or its split is open, or its bucket has no delta (its rows are its base)
abbrev pub IsSettled : List OpenSplit → Leaf → Leaf → Type 0
IsSettled splits old new = (new ≡ old) ⊎ ((is_splitting splits new.name ≡ true) ⊎ (new.bucket.base ≡ new.bucket.rows))

abbrev pub AreSettled : List OpenSplit → List Leaf → List Leaf → Type 0
AreSettled splits [] [] = ⊤
AreSettled splits [] (n ∷ new) = ⊥
AreSettled splits (o ∷ old) [] = ⊥
AreSettled splits (o ∷ old) (n ∷ new) = IsSettled splits o n × AreSettled splits old new

-- a base is kept if and only if the split of the key's leaf is open
abbrev pub KeepsAt : List OpenSplit → List Leaf → ℕ → Bool → Type 0
KeepsAt splits leaves key keeps = (l : Leaf) → leaf_under key leaves ≡ Some l → keeps ≡ is_splitting splits l.name

-- the leaf of its key has the first row, and the other row is not in the leaf of its own key
abbrev pub CanMove : Row → Row → List Leaf → Type 0
CanMove gone put leaves = Holds gone leaves true × Holds put leaves false
