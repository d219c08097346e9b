-- A world that changes and changes back.
use Rattle.std.proofs.Common.{◌≡◌, ℕ, [], ◌∷◌, Some, None, refl, sym, ap, ◌∙◌, arith}
use Rattle.std.proofs.lemmas.Bool.Decides.{nat_tests}
use Rattle.std.proofs.lemmas.Grind.{common_steps}
use Rattle.plain_list.specs.declared.world.Member.{Member}
use Rattle.plain_list.specs.declared.world.Stamped.{Stamped}
use Rattle.plain_list.specs.World.{World, places_of, position_of}
use Rattle.plain_list.specs.Places.{IsRising}
use Rattle.plain_list.specs.Answer.{with_member, with_moved, without}
use Rattle.point_table.proofs.RowSteps.{with_moved-same}

pub without-none : (id : ℕ) (ms : World) → position_of ms id ≡ None → without id ms ≡ ms
without-none id [] none = refl
without-none id (n ∷ ns) none =
    let rest : position_of ns id ≡ None → without id ns ≡ ns = without-none id ns in
    grind (arith, nat_tests, common_steps)

-- an object that came goes
pub without-with_member : (m : Member) (ms : World) → position_of ms m.id ≡ None → without m.id (with_member m ms) ≡ ms
without-with_member m [] none = grind (arith, nat_tests, common_steps)
without-with_member m (n ∷ ns) none =
    let rest : position_of ns m.id ≡ None → without m.id (with_member m ns) ≡ ns = without-with_member m ns in
    let same : position_of ns m.id ≡ None → without m.id ns ≡ ns = without-none m.id ns in
    grind (arith, nat_tests, common_steps)

with_moved-twice : (id : ℕ) (a b : Stamped) (ms : World) → with_moved id b (with_moved id a ms) ≡ with_moved id b ms
with_moved-twice id a b [] = refl
with_moved-twice id a b (m ∷ ms) =
    let rest : with_moved id b (with_moved id a ms) ≡ with_moved id b ms = with_moved-twice id a b ms in
    grind (arith, nat_tests, common_steps)

-- an object that moved goes back
pub with_moved-back : (id : ℕ) (old to : Stamped) (ms : World) → IsRising (places_of ms) → position_of ms id ≡ Some old → with_moved id old (with_moved id to ms) ≡ ms
with_moved-back id old to ms rising there = with_moved-twice id to old ms ∙ with_moved-same id old ms rising there

-- a world to which and from which an object moved
pub put_back : (id : ℕ) (old to : Stamped) (before between after : World) → IsRising (places_of before) → Some old ≡ position_of before id → between ≡ with_moved id to before → after ≡ with_moved id old between → after ≡ before
put_back id old to before between after rising found moved back = back ∙ ap (with_moved id old) moved ∙ with_moved-back id old to before rising (sym found)
