-- What an index answers of a world whose points it represents.
use Rattle.std.specs.Prelude.{Bool, List}
use Rattle.plain_list.specs.World.{World, places_of, IsWorld}
use Rattle.index_layer.specs.Leaves.{Leaf}
use Rattle.index_layer.specs.Stands.{Stands}

-- The fact holds of each world whose points the leaves represent.
abbrev pub OfWorld : List Leaf → (World → Type 0) → Type 0
OfWorld leaves P = (world : World) (names : List (List Bool)) → IsWorld world → Stands leaves (places_of world) names → P world
