-- The leaves that a bucket size requires for a set of objects.
use Rattle.std.specs.Prelude.{◌≡◌, ℕ, Bool, List, [], ◌∷◌, IsTrue}
use Rattle.std.specs.List.{fold, AllByRecursion}
use Rattle.plain_list.specs.World.{World, places_of}
use Rattle.plain_list.specs.Size.{is_over, IsSized}
use Rattle.plain_list.specs.State.{split_leaf}
use Rattle.index_layer.specs.Leaves.{Leaf, names_of}
use Rattle.index_layer.specs.Stands.{Stands}

-- the leaves come from the one with the empty name by splits, each of a name with more objects than the size
pub record ComesByNeed (w size : ℕ) (world : World) (leaves : List (List Bool)) : Type 0 where
  pub names : List (List Bool)
  pub leaves_are : leaves ≡ fold (λ (ls : List (List Bool)) name. split_leaf w name ls) ([] ∷ []) names
  pub needed : AllByRecursion (λ name. IsTrue (is_over w size (places_of world) name)) names

-- And no leaf is to be split, so these are the fewest such leaves.
pub record FitsSize (w size : ℕ) (world : World) (leaves : List (List Bool)) : Type 0 where
  pub comes : ComesByNeed w size world leaves
  pub sized : IsSized w size world leaves

-- the leaves stand for a world, and are those that the size requires for it
pub record StandsBySize (w size : ℕ) (world : World) (leaves : List Leaf) : Type 0 where
  pub stands : Stands leaves (places_of world) (names_of leaves)
  pub fits : FitsSize w size world (names_of leaves)
