-- Where the objects of a world are after a change: all that the leaves stand for.
use Rattle.std.proofs.Common.{◌≡◌, ℕ, Bool, true, false, cond, List, [], ◌∷◌, Option, Some, None, refl, sym, ap, ◌∙◌, arith}
use Rattle.std.specs.Prelude.{◌==◌}
use Rattle.std.specs.List.{find}
use Rattle.std.specs.Option.{option_map}
use Rattle.std.proofs.lemmas.Bool.{eqb-true}
use Rattle.zorder.specs.declared.points.Point.{Point}
use Rattle.zorder.specs.declared.points.Placed.{Placed}
use Rattle.index_layer.proofs.Puts.{HasMore}
use Rattle.index_layer.proofs.Standing.{HasLess}
use Rattle.plain_list.specs.declared.world.Member.{Member}
use Rattle.plain_list.specs.declared.world.Stamped.{Stamped}
use Rattle.plain_list.specs.Places.{IsRising, place_of}
use Rattle.plain_list.specs.World.{World, placed_of, stamped_of, places_of, position_of}
use Rattle.plain_list.specs.Answer.{with_member, with_moved, without}
use Rattle.plain_list.proofs.Members.{position_of-with_member, position_of-without}
use Rattle.plain_list.proofs.MemberMaps.{IsAbove-lower, with_moved-absent}
use Rattle.plain_list.proofs.PlacesOf.{place_of-places_of}

-- the point of what is kept
abbrev point_in : Option Stamped → Option Point
point_in kept = option_map (λ (s : Stamped). s.at) kept

pub place-none : (world : World) (id : ℕ) → position_of world id ≡ None → place_of (places_of world) id ≡ None
place-none world id none = place_of-places_of world id ∙ ap point_in none

pub place-some : (world : World) (id : ℕ) (kept : Stamped) → position_of world id ≡ Some kept → place_of (places_of world) id ≡ Some kept.at
place-some world id kept there = place_of-places_of world id ∙ ap point_in there

point_if : (b : Bool) (one other : Option Stamped) → point_in (cond b one other) ≡ cond b (point_in one) (point_in other)
point_if true one other = refl
point_if false one other = refl

-- once an object has come
pub places-with_member : (m : Member) (world : World) → position_of world m.id ≡ None → HasMore (places_of world) (places_of (with_member m world)) (placed_of m)
places-with_member m world none id =
    place_of-places_of (with_member m world) id
    ∙ ap point_in (position_of-with_member m world id none)
    ∙ point_if (m.id == id) (Some (stamped_of m)) (position_of world id)
    ∙ ap (cond (m.id == id) (Some m.at)) (sym (place_of-places_of world id))

-- once an object has gone
pub places-without : (gone : ℕ) (world : World) → HasLess (places_of world) (places_of (without gone world)) gone
places-without gone world id =
    place_of-places_of (without gone world) id
    ∙ ap point_in (position_of-without gone world id)
    ∙ point_if (gone == id) None (position_of world id)
    ∙ ap (cond (gone == id) None) (sym (place_of-places_of world id))

some_is : {A : Type 0} (a b : A) → Some a ≡ Some b → a ≡ b
some_is a b e = cc e

-- once an object has moved to the point where it was
pub places-with_moved : (id : ℕ) (old to : Stamped) (world : World) → IsRising (places_of world) → position_of world id ≡ Some old → old.at ≡ to.at → places_of (with_moved id to world) ≡ places_of world
places-with_moved id old to [] rising there same = refl
places-with_moved id old to (m ∷ world) rising there same = by_test (m.id == id) refl there (places-with_moved id old to world rising.1)
  where
    by_test : (b : Bool) → (m.id == id) ≡ b → option_map stamped_of (cond b (Some m) (find (λ n. n.id == id) world)) ≡ Some old
        → (position_of world id ≡ Some old → old.at ≡ to.at → places_of (with_moved id to world) ≡ places_of world)
        → placed_of (cond b (record { id = id; at = to.at; moment = to.moment }) m) ∷ places_of (with_moved id to world) ≡ placed_of m ∷ places_of world
    by_test true e here later =
        let id_is : m.id ≡ id = eqb-true m.id id e in
        let kept : stamped_of m ≡ old = some_is (stamped_of m) old here in
        let at_is : m.at ≡ to.at = ap (λ (s : Stamped). s.at) kept ∙ same in
        let rest : with_moved id to world ≡ world = with_moved-absent id to world (IsAbove-lower id m.id world (omega (arith, id_is)) rising.0) in
        λ i. record { id = sym id_is i; at = sym at_is i } ∷ places_of (rest i)
    by_test false e here later = ap (λ (ms : List Placed). placed_of m ∷ ms) (later here same)
