-- What holds of the objects that an index represents.
use Rattle.std.specs.Prelude.{Bool, List}
use Rattle.zorder.specs.declared.points.Placed.{Placed}
use Rattle.plain_list.specs.Places.{ArePlaces}
use Rattle.index_layer.specs.Leaves.{Leaf}
use Rattle.index_layer.specs.Stands.{Stands}

-- P holds of the places that the leaves represent
abbrev pub OfPlaces : List Leaf → (List Placed → Type 0) → Type 0
OfPlaces leaves P = (places : List Placed) (names : List (List Bool)) → ArePlaces places → Stands leaves places names → P places
