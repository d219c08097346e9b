-- Objects of a list that are at given places.
use Rattle.std.specs.Prelude.{◌≡◌, List, Some}
use Rattle.std.specs.List.{All}
use Rattle.zorder.specs.declared.points.Placed.{Placed}
use Rattle.plain_list.specs.Places.{place_of}

-- each object of the list is where the places have it
abbrev pub AreOf : List Placed → List Placed → Type 0
AreOf places list = All (λ (m : Placed). place_of places m.id ≡ Some m.at) list
