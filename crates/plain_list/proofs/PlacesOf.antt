-- What an index sees of a world: where its objects are.
use Rattle.std.proofs.Common.{◌≡◌, ℕ, zero, suc, get_or, [], ◌∷◌, length, refl, ap, arith}
use Rattle.std.specs.Option.{option_map}
use Rattle.std.proofs.lemmas.Bool.Decides.{nat_tests}
use Rattle.std.proofs.lemmas.Grind.{common_steps}
use Rattle.plain_list.specs.declared.world.Member.{Member}
use Rattle.plain_list.specs.declared.world.Stamped.{Stamped}
use Rattle.plain_list.specs.Places.{place_of}
use Rattle.plain_list.specs.World.{World, placed_of, places_of, position_of}

pub length-places_of : (world : World) → length (places_of world) ≡ length world
length-places_of [] = refl
length-places_of (m ∷ world) = ap suc (length-places_of world)

-- where an object is, is where its kept position is
pub place_of-places_of : (world : World) (id : ℕ) → place_of (places_of world) id ≡ option_map (λ (s : Stamped). s.at) (position_of world id)
place_of-places_of [] id = refl
place_of-places_of (m ∷ world) id =
    let rest : place_of (places_of world) id ≡ option_map (λ (s : Stamped). s.at) (position_of world id) = place_of-places_of world id in
    grind (arith, nat_tests, common_steps)

pub places_of-get_or : (world : World) (i : ℕ) (d : Member) → get_or (places_of world) i (placed_of d) ≡ placed_of (get_or world i d)
places_of-get_or [] i d = refl
places_of-get_or (m ∷ world) zero d = refl
places_of-get_or (m ∷ world) (suc i) d = places_of-get_or world i d
