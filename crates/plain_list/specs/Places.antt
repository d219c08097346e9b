-- Objects and their points, in the order of ids, each id once. An index and a query see no more of a world.
use Rattle.std.specs.Prelude.{ℕ, ◌<◌, ◌≤◌, List, [], ◌∷◌, length, Option, ⊤, ◌==◌}
use Rattle.std.specs.List.{find, AllByRecursion}
use Rattle.std.specs.Option.{option_map}
use Rattle.zorder.specs.declared.points.Point.{Point}
use Rattle.zorder.specs.declared.points.Placed.{Placed}
use Rattle.zorder.specs.Key.{IsPoint}

-- the greatest number of objects
abbrev pub most_members : ℕ
most_members = 1048576

-- each id is above this one
abbrev pub IsAbove : ℕ → List Placed → Type 0
IsAbove id [] = ⊤
IsAbove id (m ∷ places) = (id < m.id) × IsAbove id places

-- the ids rise
abbrev pub IsRising : List Placed → Type 0
IsRising [] = ⊤
IsRising (m ∷ places) = IsAbove m.id places × IsRising places

-- all coordinates have 32 bits
abbrev pub AreAtPoints : List Placed → Type 0
AreAtPoints places = AllByRecursion (λ (m : Placed). IsPoint m.at) places

-- what holds of the places of every world
pub record ArePlaces (places : List Placed) : Type 0 where
  pub rising : IsRising places
  pub size : length places ≤ most_members
  pub points : AreAtPoints places

-- the point of the object with this id
abbrev pub place_of : List Placed → ℕ → Option Point
place_of places id = option_map (λ m. m.at) (find (λ m. m.id == id) places)
