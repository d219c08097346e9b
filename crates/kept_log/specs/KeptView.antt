-- What contracts see of a kept log.
use Rattle.std.specs.Prelude.{ℕ, Bool, List, [], Option, Some, None}
use Rattle.cell_format.specs.declared.cell.Cell.{Cell}
use Rattle.plain_list.specs.declared.entries.Entry.{Entry}
use Rattle.split_log.specs.LogView.{LogView}

-- What came before a log that has replaced another one: the entries of the history until then, and how many more splits
-- they began than the log's own cells tell of. `start` is the drive at the log's own opening, and `first` is the number of
-- its cells then.
pub record Earlier (D : Type 0) : Type 0 where
  pub entries : List Entry
  pub skipped : ℕ
  pub start : D
  pub first : ℕ

-- The drive, the number of cells in its file, and the number of the first cell whose append failed. `start` is the drive
-- at the first opening, and `first` is the number of cells then. `waiting` are the cells that were added and aren't in the
-- file yet, in order. `at_sync` says whether cells wait for a sync. If an append has failed, `waiting` are the cells that
-- waited before it. `moves` says whether a fresh log in another file may replace the log. `earlier` is what came before
-- the log, if it has replaced another one.
pub record KeptView (D : Type 0) : Type 0 where
  pub disk : D
  pub cells : ℕ
  pub failed : Option ℕ
  pub start : D
  pub first : ℕ
  pub waiting : List Cell
  pub at_sync : Bool
  pub moves : Bool
  pub earlier : Option (Earlier D)

-- The log itself.
abbrev pub kept_view : {D : Type 0} → KeptView D → LogView D
kept_view log = record { disk = log.disk; cells = log.cells; failed = log.failed }

-- The cells that wait, if cells wait for a sync.
abbrev pub waiting_of : Option (List Cell) → List Cell
waiting_of None = []
waiting_of (Some cells) = cells

-- A log by itself, with this opening.
abbrev pub own_of : {D : Type 0} → LogView D → D → ℕ → List Cell → Bool → Bool → KeptView D
own_of log start first waiting at_sync moves = record {
  disk = log.disk;
  cells = log.cells;
  failed = log.failed;
  start = start;
  first = first;
  waiting = waiting;
  at_sync = at_sync;
  moves = moves;
  earlier = None;
}
