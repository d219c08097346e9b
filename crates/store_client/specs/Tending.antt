-- A call before which a client may have let its store continue over a second file.
use Rattle.std.specs.Prelude.{◌≡◌, ◌⊎◌, ℕ, true, List, Some, Result, Ok, Err}
use mathlib.Core.List.{IsPrefix}
use Rattle.plain_list.specs.declared.entries.Entry.{Entry}
use Rattle.plain_list.specs.declared.entries.Entry.TheVariants.{Fail}
use Rattle.plain_list.specs.History.{failed_cell}
use Rattle.plain_list.specs.declared.entries.Lost.{Lost}
use Rattle.commit_book.specs.Moves.{lost_stop}
use Rattle.commit_book.specs.Syncs.{lost_sync}
use Rattle.book_lock.specs.Pass.{Known}
use Rattle.sessions.specs.Runs.{HasLooked}
use Rattle.sessions.specs.Shared.{moves_of}
use Rattle.sessions.specs.Steps.{all_parts, has_added}
use Rattle.sessions.specs.declared.faults.CallFault.{CallFault}
use Rattle.sessions.specs.declared.faults.CallFault.TheVariants.{Closed}

-- The store was stopped, since a drive failed while the store was to continue over its second file. The last entry that
-- the pass has seen is the failed append of a find or of a sync, and is its own. The history names this record as the one
-- whose append failed. That comes only to a store whose log a fresh one may replace.
pub record Stops (old new : Known) (cell : ℕ) : Type 0 where
  pub before : List Entry
  pub later : IsPrefix old.seen before
  pub alone : old.parts ≡ all_parts → before ≡ old.seen
  pub number : ℕ
  pub lost : Lost
  pub lost_is : (lost ≡ lost_stop) ⊎ (lost ≡ lost_sync)
  pub added : new ≡ has_added old before (Fail number lost)
  pub cell_is : failed_cell new.seen ≡ Some cell
  pub moves : moves_of old.origin ≡ true

-- The fault says so.
abbrev pub StopsFor : Known → Known → CallFault → Type 0
StopsFor old new fault = (cell : ℕ) × (fault ≡ Closed cell) × Stops old new cell

-- The call left this of its result. Or it was refused, since the store was stopped before it.
abbrev pub OrStops : {A : Type 0} → (Result A CallFault → Type 0) → Known → Known → Result A CallFault → Type 0
OrStops Did old new (Ok value) = Did (Ok value)
OrStops Did old new (Err fault) = Did (Err fault) ⊎ StopsFor old new fault

-- Before a call: the pass may have seen more, unless the store was stopped.
abbrev pub LooksOrStops : {A : Type 0} → Known → Known → Result A CallFault → Type 0
LooksOrStops old new (Ok _) = HasLooked old new
LooksOrStops old new (Err fault) = StopsFor old new fault
