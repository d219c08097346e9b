-- A store that was opened over a file.
use Rattle.std.specs.Prelude.{◌≡◌, ℕ, ◌≤◌, Bool, false, List, [], length, Option, Some}
use Rattle.atomic_table.specs.Seated.{TableId}
use Rattle.cell_format.specs.declared.cell.Cell.{Cell}
use Rattle.disk_trait.specs.Drive.{Drive}
use Rattle.plain_list.specs.World.{IsWorld}
use Rattle.split_log.specs.LogView.{most_cells}
use Rattle.log_state.specs.Recovers.{Recovers, IsLegalCells, state_of}
use Rattle.recovery.specs.declared.seen.Seen.{Seen}
use Rattle.recovery.specs.Found.{IsNewest}
use Rattle.book_lock.specs.Pass.{Known}
use Rattle.book_lock.specs.declared.origin.Origin.{Origin}
use Rattle.sessions.specs.Steps.{all_parts}
use Rattle.store_file.specs.Files.{ReadiesLog, FindsCells}
use Rattle.store_file.specs.Objects.{IsLatest}

-- The pass that has all parts of a store with this origin, and has seen nothing yet.
abbrev pub first_pass : TableId → Origin → Known
first_pass lock origin = record { lock = lock; seen = []; own = []; origin = origin; parts = all_parts; holds = false }

-- The pass may call, and may close the store.
pub record IsFirst (lock : TableId) (pass : Known) : Type 0 where
  pub lock_is : pass.lock ≡ lock
  pub off : pass.holds ≡ false
  pub parts : pass.parts ≡ all_parts

-- The origin of a store over what was found in a log, to which each record is written at once. `start` is the drive at that moment, and `kept` is whether its book
-- keeps the list of its entries.
abbrev pub found_origin : Bool → ℕ → Seen → Drive → Origin
found_origin kept bucket seen start = record {
  world = seen.world;
  leaves = seen.leaves;
  begun = seen.begun;
  log = Some (record { cells = seen.cells; bytes = start.bytes; clock = start.clock; faults = start.faults; at_sync = false; moves = false });
  bucket = bucket;
  kept = kept;
}

-- The same origin, computed from the cells of the log.
abbrev pub cells_origin : Bool → ℕ → ℕ → List Cell → Drive → Origin
cells_origin kept w bucket cells start = record {
  world = (state_of w cells).world;
  leaves = (state_of w cells).leaves;
  begun = (state_of w cells).begun;
  log = Some (record { cells = length cells; bytes = start.bytes; clock = start.clock; faults = start.faults; at_sync = false; moves = false });
  bucket = bucket;
  kept = kept;
}

-- A store over what was found in a log, with its first pass. Its book keeps no list of its entries. The numbers are those
-- of what was found.
pub record BeginsOver {D : Type 0} (drive : D → Drive) (bucket : ℕ) (seen : Seen) (start : D) (lock : TableId) (pass : Known) (points : ℕ) (latest : Option ℕ) (records : ℕ) : Type 0 where
  pub pass_is : pass ≡ first_pass lock (found_origin false bucket seen (drive start))
  pub world : IsWorld seen.world
  pub points_are : points ≡ length seen.world
  pub latest_is : IsLatest seen.world latest
  pub records_are : records ≡ seen.cells

-- The cells of the log. They are those of the file, if its bytes are known, and none if the file was small.
pub record FindsLog (w : ℕ) (cells : List Cell) (old start : Drive) : Type 0 where
  pub legal : IsLegalCells w cells
  pub few : length cells ≤ most_cells
  pub finds : (bytes : List ℕ) → old.bytes ≡ Some bytes → FindsCells w cells bytes
  pub recovers : (bytes : List ℕ) → start.bytes ≡ Some bytes → Recovers w cells bytes
  pub newest : (bytes : List ℕ) → start.bytes ≡ Some bytes → IsNewest bytes

-- A store was opened over a file. It begins with what the cells of its log leave, on the drive at the opening of the
-- log. The pass has all parts, and the numbers are those of the objects and the cells.
pub record OpensStore {D : Type 0} (drive : D → Drive) (w bucket : ℕ) (file : List ℕ) (old : Drive) (lock : TableId) (pass : Known) (points : ℕ) (latest : Option ℕ) (records : ℕ) : Type 0 where
  pub start : D
  pub readies : ReadiesLog w file old (drive start)
  pub cells : List Cell
  pub found : FindsLog w cells old (drive start)
  pub pass_is : pass ≡ first_pass lock (cells_origin false w bucket cells (drive start))
  pub world : IsWorld pass.origin.world
  pub points_are : points ≡ length pass.origin.world
  pub latest_is : IsLatest pass.origin.world latest
  pub records_are : records ≡ length cells
