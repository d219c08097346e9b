-- Memory for the objects and the leaves of a state.
use Rattle.std.specs.Prelude.{ℕ, ◌+◌, ◌≤◌, length}
use Rattle.plain_list.specs.State.{State}

-- How many objects and how many leaves the memory can take.
pub record RoomView : Type 0 where
  pub members : ℕ
  pub leaves : ℕ

-- It can take those of the state.
pub record HasRoom (s : State) (room : RoomView) : Type 0 where
  pub members : length s.world ≤ room.members
  pub leaves : length s.leaves ≤ room.leaves

-- It can take those of each state after one more cell.
pub record HasRoomForMore (s : State) (room : RoomView) : Type 0 where
  pub members : length s.world + 1 ≤ room.members
  pub leaves : length s.leaves + 3 ≤ room.leaves

-- There is no less room than before.
pub record IsNoLess (old new : RoomView) : Type 0 where
  pub members : old.members ≤ new.members
  pub leaves : old.leaves ≤ new.leaves

-- The new state has at most one object and three leaves more than the old one.
pub record HasRoomAfter (old new : State) : Type 0 where
  pub members : length new.world ≤ length old.world + 1
  pub leaves : length new.leaves ≤ length old.leaves + 3
