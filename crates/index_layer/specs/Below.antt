-- What is below a place in an index.
use Rattle.std.specs.Prelude.{◌≡◌, Bool, true, false, List, [], ◌∷◌, ◌++◌, Some}
use Rattle.std.specs.List.{list_any, starts_with}
use Rattle.std.specs.Arc.{arc_value}
use mathlib.Core.Bool.{beq}
use Rattle.index_layer.specs.Leaves.{Leaf, has_name, leaf_named}
use Rattle.index_layer.specs.Part.{is_inner}
use Rattle.index_layer.specs.declared.index.Below.{Below}
use Rattle.index_layer.specs.declared.index.Below.TheVariants as below

-- whether some leaf's name begins with this one
abbrev pub begins_some : List Bool → List Leaf → Bool
begins_some name leaves = list_any (λ l. starts_with beq l.name name) leaves

-- the leaf of this name; or, if no leaf has the name but some leaf's name begins with it, the places of both halves
abbrev pub IsBelow : {P : Type 0} → List Leaf → (P → List Bool → Type 0) → List Bool → Below P → Type 0
IsBelow leaves is_at name (below.Leaf bucket) = leaf_named name leaves ≡ Some (record { name = name; bucket = arc_value bucket.now })
IsBelow leaves is_at name (below.Halves zero one) =
    (is_inner name leaves ≡ true) × (has_name name leaves ≡ false) × is_at zero.now (name ++ false ∷ []) × is_at one.now (name ++ true ∷ [])
