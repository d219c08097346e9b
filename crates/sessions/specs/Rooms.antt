-- The room that is left in a store.
use Rattle.std.specs.Prelude.{◌≡◌, ℕ, ◌+◌, false, List, length, Option, is_some}
use Rattle.std.specs.Option.{option_map}
use Rattle.plain_list.specs.declared.entries.Entry.{Entry}
use Rattle.log_state.specs.Changes.{cells_of}
use Rattle.commit_book.specs.RoomLeft.{room_beside}
use Rattle.commit_book.specs.declared.book.room.Room.{Room}
use Rattle.book_lock.specs.declared.origin.Origin.{Origin}
use Rattle.sessions.specs.Shared.{first_cells, moves_of}

-- The number of cells after a history in the log of a store of this origin, if there is a log that no fresh one has
-- replaced.
abbrev pub cells_where_at : Origin → List Entry → Option ℕ
cells_where_at origin seen = option_map (λ (n : ℕ). n + length (cells_of origin.world seen)) (first_cells origin)

-- The room that is left after a history, if no fresh log has replaced the log.
abbrev pub room_at : Origin → List Entry → Room
room_at origin seen = room_beside origin.kept (cells_where_at origin seen) (length seen)

-- This is the room that is left after a history next to so many cells, if there is a log. If no fresh log may replace it,
-- the history determines the number (`room-exact`, proofs/Exact).
pub record IsRoom (origin : Origin) (seen : List Entry) (room : Room) : Type 0 where
  pub cells : Option ℕ
  pub counted : moves_of origin ≡ false → cells ≡ cells_where_at origin seen
  pub logged : is_some cells ≡ is_some origin.log
  pub room_is : room ≡ room_beside origin.kept cells (length seen)
