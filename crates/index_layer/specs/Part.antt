-- What an index has at a name.
use Rattle.std.specs.Prelude.{◌≡◌, Bool, true, false, not, ◌&&◌, List, Some}
use Rattle.std.specs.List.{list_any, starts_with}
use Rattle.std.specs.Arc.{arc_value}
use mathlib.Core.Bool.{beq}
use Rattle.zorder.specs.SameName.{same_name}
use Rattle.index_layer.specs.Leaves.{Leaf, has_name, leaf_named}
use Rattle.index_layer.specs.declared.index.Part.{Part}
use Rattle.index_layer.specs.declared.index.Part.TheVariants as part

-- whether the second name is longer and begins with the first
abbrev pub goes_on : List Bool → List Bool → Bool
goes_on name long = starts_with beq long name && not (same_name long name)

-- whether a leaf's name is longer and begins with this name
abbrev pub is_inner : List Bool → List Leaf → Bool
is_inner name leaves = list_any (λ l. goes_on name l.name) leaves

-- the leaf of this name; or no leaf has the name, and some leaf's name begins with it (Inner) or none does (Outside)
abbrev pub IsPart : List Leaf → List Bool → Part → Type 0
IsPart leaves name part.Inner = (is_inner name leaves ≡ true) × (has_name name leaves ≡ false)
IsPart leaves name (part.Leaf bucket) = leaf_named name leaves ≡ Some (record { name = name; bucket = arc_value bucket.now })
IsPart leaves name part.Outside = (is_inner name leaves ≡ false) × (has_name name leaves ≡ false)
