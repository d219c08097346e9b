-- A call has a change where its answer is one that changes something, and the world stays without one.
use Rattle.std.proofs.Common.{◌≡◌, ℕ, Bool, true, false, Option, Some, None, is_some, refl, sym, ◌∙◌, ap, cond}
use Rattle.std.specs.Prelude.{nat_le, nat_lt, List, length}
use Rattle.std.specs.Option.{option_map_or}
use Rattle.zorder.specs.declared.points.Placed.{Placed}
use Rattle.plain_list.specs.declared.world.Stamped.{Stamped}
use Rattle.plain_list.specs.declared.ops.Op.{Op}
use Rattle.plain_list.specs.declared.ops.Op.TheVariants.{Put, Move, Remove, Find, Within, Near}
use Rattle.plain_list.specs.declared.ops.Answer.{Answer}
use Rattle.plain_list.specs.declared.ops.Answer.TheVariants.{Done, Present, Full, Moved, Stale, Gone, At, Absent, Found, Many}
use Rattle.plain_list.specs.World.{World, position_of, is_full, places_of}
use Rattle.plain_list.specs.Answer.{answer_of, after_of, changed, is_change, moved_or_stale}
use Rattle.plain_list.specs.Queries.{members_in}
use Rattle.plain_list.specs.Changes.{change_of}

-- a call has a change exactly where the answer of its world is one that changes something
pub is_some-change_of : (place : ℕ) (world : World) (op : Op) → is_some (change_of place op (answer_of world op)) ≡ is_change (answer_of world op)
is_some-change_of place world (Put id at moment) = by_place (position_of world id) (is_full world)
  where
    by_place : (o : Option Stamped) (full : Bool) → let a : Answer = option_map_or Present o (cond full Full Done) in is_some (change_of place (Put id at moment) a) ≡ is_change a
    by_place (Some kept) full = refl
    by_place None true = refl
    by_place None false = refl
is_some-change_of place world (Move id at moment) = by_place (position_of world id)
  where
    by_moment : (kept : Stamped) (late : Bool) → let a : Answer = cond late (Stale kept) (Moved kept) in is_some (change_of place (Move id at moment) a) ≡ is_change a
    by_moment kept true = refl
    by_moment kept false = refl

    by_place : (o : Option Stamped) → let a : Answer = option_map_or (moved_or_stale moment) o Absent in is_some (change_of place (Move id at moment) a) ≡ is_change a
    by_place (Some kept) = by_moment kept (nat_lt moment kept.moment)
    by_place None = refl
is_some-change_of place world (Remove id) = by_place (position_of world id)
  where
    by_place : (o : Option Stamped) → let a : Answer = option_map_or Gone o Absent in is_some (change_of place (Remove id) a) ≡ is_change a
    by_place (Some kept) = refl
    by_place None = refl
is_some-change_of place world (Find id) = by_place (position_of world id)
  where
    by_place : (o : Option Stamped) → let a : Answer = option_map_or At o Absent in is_some (change_of place (Find id) a) ≡ is_change a
    by_place (Some kept) = refl
    by_place None = refl
is_some-change_of place world (Within region) = by_length (members_in region (places_of world)) (nat_le (length (members_in region (places_of world))) 2048)
  where
    by_length : (list : List Placed) (short : Bool) → let a : Answer = cond short (Found list) (Many (length list)) in is_some (change_of place (Within region) a) ≡ is_change a
    by_length list true = refl
    by_length list false = refl
is_some-change_of place world (Near at k) = refl

-- without a change the world stays
pub after_of-no_change : (place : ℕ) (world : World) (op : Op) → change_of place op (answer_of world op) ≡ None → after_of world op ≡ world
after_of-no_change place world op none =
    let no : is_change (answer_of world op) ≡ false = sym (is_some-change_of place world op) ∙ ap is_some none in
    ap (λ b. cond b (changed world op) world) no
