-- What a crash leaves of the two files of a store whose log a fresh one may replace, and with what the next opening begins.
use Rattle.std.specs.Prelude.{◌≡◌, ◌⊎◌, ℕ, List, ◌++◌, length}
use Rattle.cell_format.specs.declared.cell.Cell.{Cell}
use Rattle.disk_trait.specs.Drive.{Drive}
use Rattle.plain_list.specs.declared.entries.Entry.{Entry}
use Rattle.plain_list.specs.World.{World}
use Rattle.plain_list.specs.History.{world_after}
use Rattle.plain_list.specs.State.{State}
use Rattle.log_state.specs.Changes.{cells_of}
use Rattle.log_state.specs.Recovers.{state_of}
use Rattle.book_lock.specs.declared.origin.Origin.{Origin}

-- What a crash leaves of two files at one moment, while a fresh log on the second drive replaces a log on the first one.
-- `first` and `spare` are the drives before. `second` is the second drive once the fresh log is open there, and `left` is
-- the first drive at the end. Until the fresh log is open the first drive is unchanged. After that the second one is. No
-- clause says which moments of the two drives go together: `take_over` requires an open log, and then empties the other.
abbrev pub IsMoment : Drive → Drive → Drive → Drive → List ℕ → List ℕ → Type 0
IsMoment first spare second left one two = (first.images one × second.since spare.clock two) ⊎ (left.since first.clock one × second.images two)

-- The first entries of a history. Those that follow have `waiting` cells.
pub record IsDurablePart (world : World) (h : List Entry) (waiting : ℕ) (part : List Entry) : Type 0 where
  pub rest : List Entry
  pub parts : h ≡ part ++ rest
  pub count : length (cells_of (world_after world part) rest) ≡ waiting

-- The cells leave the objects and the leaves of this state.
pub record HasStateOf (w : ℕ) (s : State) (cells : List Cell) : Type 0 where
  pub world : (state_of w cells).world ≡ s.world
  pub leaves : (state_of w cells).leaves ≡ s.leaves

-- A store of this origin begins with the objects and the leaves of this state.
pub record BeginsIn (s : State) (origin : Origin) : Type 0 where
  pub world : origin.world ≡ s.world
  pub leaves : origin.leaves ≡ s.leaves
