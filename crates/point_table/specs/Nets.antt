-- The net changes of a batch in the map of objects.
use Rattle.std.specs.Prelude.{◌≡◌, ℕ, Bool, true, false, List, [], ◌∷◌, ◌==◌, Option, Some, None, is_some, if◌then◌else◌}
use Rattle.std.specs.List.{list_any}
use Rattle.std.specs.Map.{lookup}
use Rattle.std.specs.BTreeMap.{is_at}
use Rattle.std.specs.Ordering.{nat_cmp}
use Rattle.std.specs.Option.{unwrap_or, option_map}
use Rattle.plain_list.specs.declared.world.Member.{Member}
use Rattle.plain_list.specs.declared.world.Stamped.{Stamped}
use Rattle.plain_list.specs.World.{World, member_of, position_of, IsWorld}
use Rattle.plain_list.specs.Answer.{with_moved, without}
use Rattle.point_table.specs.Drafts.{Net, after_net}

-- what the net changes say of an id
abbrev pub net_of : Net → ℕ → Option (Option Stamped)
net_of net id = lookup (is_at (nat_cmp id)) net

-- whether one of these objects has the id
abbrev pub has_id : List Member → ℕ → Bool
has_id ms id = list_any (λ m. m.id == id) ms

-- no object of the world has the id of one of these
abbrev pub AreAbsent : World → List Member → Type 0
AreAbsent world ms = (id : ℕ) → has_id ms id ≡ true → position_of world id ≡ None

-- these are the objects that the net changes leave and that the world does not have
pub record AreNew (world : World) (net : Net) (new : List Member) : Type 0 where
  pub absent : AreAbsent world new
  pub all : (id : ℕ) (to : Stamped) → net_of net id ≡ Some (Some to) → position_of world id ≡ None → has_id new id ≡ true
  pub only : (id : ℕ) → net_of net id ≡ None → has_id new id ≡ false

-- objects with other ids are as before
abbrev pub KeepsOthers : List Member → World → World → Type 0
KeepsOthers ms old new = (id : ℕ) → has_id ms id ≡ false → position_of new id ≡ position_of old id

-- at most these objects come, go or move
pub record Touches (ms : List Member) (old new : World) : Type 0 where
  pub others : KeepsOthers ms old new
  pub world : IsWorld old → IsWorld new

-- these objects are there too
pub record Adds (ms : List Member) (old new : World) : Type 0 where
  pub touches : Touches ms old new
  pub there : (id : ℕ) → has_id ms id ≡ true → is_some (position_of new id) ≡ true

-- these objects are gone
pub record Removes (ms : List Member) (old new : World) : Type 0 where
  pub touches : Touches ms old new
  pub gone : (id : ℕ) → has_id ms id ≡ true → position_of new id ≡ None

-- each object that the net changes leave is there
abbrev pub HasAll : Net → World → Type 0
HasAll net world = (id : ℕ) (to : Stamped) → net_of net id ≡ Some (Some to) → is_some (position_of world id) ≡ true

-- each object is at the position that the net changes have for it, and is gone if they have none; others are as before
pub record Leaves (net : Net) (old new : World) : Type 0 where
  pub positions : (id : ℕ) → position_of new id ≡ unwrap_or (net_of net id) (position_of old id)
  pub world : IsWorld old → IsWorld new

-- the object that a net change leaves, if the world does not have it
abbrev pub new_one : World → ℕ → Option Stamped → Option Member
new_one world id None = None
new_one world id (Some to) = if is_some (position_of world id) then None else Some (member_of id to)

-- the world with the object of this id moved to a position, or without it
abbrev pub settle_at : ℕ → Option Stamped → World → World
settle_at id None world = without id world
settle_at id (Some to) world = with_moved id to world

-- where an object is that is moved or removed
abbrev pub settled : Option Stamped → Option Stamped → Option Stamped
settled None kept = None
settled (Some to) kept = option_map (λ (_ : Stamped). to) kept

-- the world with each of these objects moved or removed, the first one first
abbrev pub settle_each : Net → World → World
settle_each [] world = world
settle_each (e ∷ es) world = settle_each es (settle_at e.0 e.1 world)

-- the world is the one after the net changes
pub record Makes (net : Net) (old new : World) : Type 0 where
  pub is : new ≡ after_net net old
  pub world : IsWorld new
