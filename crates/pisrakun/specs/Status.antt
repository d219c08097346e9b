-- What a store has, and how much more it takes.
use Rattle.std.specs.Prelude.{◌≡◌, ℕ, min, length, false, Option}
use Rattle.std.specs.Option.{option_map}
use Rattle.split_log.specs.LogView.{most_cells}
use Rattle.book_lock.specs.Pass.{Known}
use Rattle.sessions.specs.Rooms.{cells_where_at}
use Rattle.sessions.specs.Shared.{moves_of}
use Rattle.commit_book.specs.RoomLeft.{room_beside}
use Rattle.store_client.specs.Caller.{world_seen}
use Rattle.store_file.specs.Objects.{IsLatest}
use Rattle.pisrakun.specs.declared.looks.Status.{Status}

-- the number of records of a log, which never has more than the most
abbrev pub records_of : Option ℕ → Option ℕ
records_of cells = option_map (λ (n : ℕ). min n most_cells) cells

-- The numbers of the objects and records after all that the pass has seen, the latest moment, and the room that is left. If
-- no fresh log may replace the log, the history determines how many records there are.
pub record IsStatus (pass : Known) (status : Status) : Type 0 where
  pub cells : Option ℕ
  pub counted : moves_of pass.origin ≡ false → cells ≡ cells_where_at pass.origin pass.seen
  pub objects_are : status.objects ≡ length (world_seen pass)
  pub latest_is : IsLatest (world_seen pass) status.latest
  pub records_are : status.records ≡ records_of cells
  pub room_is : status.room ≡ room_beside pass.origin.kept cells (length pass.seen)
