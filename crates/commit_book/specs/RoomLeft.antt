-- How much room a book has left.
use Rattle.std.specs.Prelude.{ℕ, ◌+◌, ◌-◌, Bool, length, Option}
use Rattle.std.specs.Option.{option_map}
use Rattle.split_log.specs.LogView.{most_cells}
use Rattle.kept_log.specs.KeptView.{KeptView}
use Rattle.commit_book.specs.BookView.{BookView}
use Rattle.commit_book.specs.IsBook.{most_events}
use Rattle.commit_book.specs.declared.book.room.Room.{Room}

-- how many records a log has, those that wait among them, if there is one
abbrev pub cells_where : {D : Type 0} → Option (KeptView D) → Option ℕ
cells_where {D = D} log = option_map (λ (l : KeptView D). l.cells + length l.waiting) log

-- the room that is left next to this many records, if there is a log, and this many entries
abbrev pub room_beside : Bool → Option ℕ → ℕ → Room
room_beside kept cells entries = record { entries = most_events kept - entries; records = option_map (λ (n : ℕ). most_cells - n) cells }

-- the room that is left in a book
abbrev pub room_of : {D : Type 0} → BookView D → Room
room_of b = room_beside b.kept (cells_where b.log) (length b.entries)
