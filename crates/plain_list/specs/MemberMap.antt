-- A map from ids to positions, seen as a world.
use Rattle.std.specs.Prelude.{◌≡◌, ℕ, List, Option, MatchOption, map}
use Rattle.plain_list.specs.declared.world.Member.{Member}
use Rattle.plain_list.specs.declared.world.Stamped.{Stamped}
use Rattle.plain_list.specs.World.{World, member_of, position_of}
use Rattle.plain_list.specs.Answer.{with_member, with_moved}

-- an entry of the map as an object
abbrev pub entry_member : ℕ × Stamped → Member
entry_member e = member_of e.0 e.1

abbrev pub world_of : List (ℕ × Stamped) → World
world_of entries = map entry_member entries

-- an insert into a world: `there` is the position that the object had, and `new` is the world after it
pub record IsPut (id : ℕ) (to : Stamped) (there : Option Stamped) (old new : World) : Type 0 where
  pub found : there ≡ position_of old id
  pub is : MatchOption there (new ≡ with_member (member_of id to) old) (λ _. new ≡ with_moved id to old)
