-- The history, and the log that keeps it, after the step of an entry.
use Rattle.std.specs.Prelude.{◌≡◌, ◌<◌, ◌^◌, ℕ, ◌-◌, List, [], ◌∷◌, ◌++◌, length, Option, None}
use Rattle.cell_format.specs.declared.cell.Cell.{Cell}
use Rattle.plain_list.specs.declared.entries.Entry.{Entry}
use Rattle.plain_list.specs.declared.entries.Entry.TheVariants.{Fail, Call, Begin, Install, Abandon}
use Rattle.plain_list.specs.declared.entries.Lost.{Lost}
use Rattle.plain_list.specs.declared.entries.Lost.TheVariants as lost
use Rattle.plain_list.specs.History.{world_after}
use Rattle.plain_list.specs.State.{State, IsLegal}
use Rattle.disk_trait.specs.Drive.{Drive}
use Rattle.split_log.specs.LogView.{most_cells}
use Rattle.log_state.specs.Changes.{cells_of, lost_cells}
use Rattle.kept_log.specs.KeptView.{KeptView}
use Rattle.kept_log.specs.Journal.{KeepsIn, RoseIn, IsSinceIn, LeavesEither, cells_in, written_in, failed_in}
use Rattle.commit_book.specs.Events.{Events}
use Rattle.commit_book.specs.declared.faults.BookFault.{BookFault}
use Rattle.commit_book.specs.declared.faults.BookFault.TheVariants.{Disk, Memory}
use Rattle.commit_book.specs.declared.steps.Step.{Step}
use Rattle.bucket_versions.specs.declared.commit.Undone.{Undone}
use Rattle.bucket_versions.specs.declared.commit.Undone.TheVariants as undone

-- the entry of a step that was taken
abbrev pub entry_of : Lost → Entry
entry_of (lost.Call session row op) = Call session row op
entry_of (lost.Begin number name) = Begin number name
entry_of (lost.Install number) = Install number
entry_of (lost.Abandon number) = Abandon number

-- a step that may come next in a history, and has its record there
pub record IsStep (w : ℕ) (s : State) (h : List Entry) (step : Lost) : Type 0 where
  pub legal : IsLegal w s (h ++ entry_of step ∷ [])
  pub cells : cells_of (world_after s.world h) (entry_of step ∷ []) ≡ lost_cells step

-- a step with room for its record and its entry
pub record CanStep {D : Type 0} (step : Lost) (events : Events) (log : Option (KeptView D)) : Type 0 where
  pub cell : Cell
  pub cell_is : lost_cells step ≡ cell ∷ []
  pub going : failed_in log ≡ None
  pub room : cells_in log < most_cells
  pub promised : 0 < events.room
  pub few : length events.entries < 2 ^ 63

-- A step was tried. This entry ends the history, and the log keeps it. At every moment a crash leaves the records that were
-- written before, or all records from before and the step's own.
pub record EndsStep {D : Type 0} (drive : D → Drive) (step : Lost) (last : Entry) (before after : Events) (old new : Option (KeptView D)) : Type 0 where
  pub events : after ≡ record before { entries = before.entries ++ last ∷ []; room = before.room - 1 }
  pub keeps : (w : ℕ) (s : State) → IsStep w s before.entries step → KeepsIn drive w s before.entries old → KeepsIn drive w s (before.entries ++ last ∷ []) new
  pub any_moment : (w : ℕ) (s : State) → IsStep w s before.entries step → KeepsIn drive w s before.entries old → LeavesEither drive w s before.entries (entry_of step) old new
  pub since : IsSinceIn old new

-- the same history and the same log
pub record SameStep {D : Type 0} (old new : Step D) : Type 0 where
  pub history : new.history.ghost_name ≡ old.history.ghost_name
  pub journal : new.journal.ghost_name ≡ old.journal.ghost_name

-- the step was taken, and its entry ends the history
pub record Takes {D : Type 0} (drive : D → Drive) (old new : Step D) : Type 0 where
  pub same : SameStep old new
  pub ends : EndsStep drive old.lost (entry_of old.lost) old.history.now new.history.now old.journal.now new.journal.now

-- the drive failed, so the step was lost at the first record that is not in the file
pub record Loses {D : Type 0} (drive : D → Drive) (old new : Step D) : Type 0 where
  pub same : SameStep old new
  pub ends : EndsStep drive old.lost (Fail (written_in old.journal.now) old.lost) old.history.now new.history.now old.journal.now new.journal.now
  pub written : written_in new.journal.now ≡ written_in old.journal.now
  pub rose : RoseIn drive old.journal.now new.journal.now

-- the fault of a book for a step that was not taken
abbrev pub fault_of : Undone → ℕ → BookFault
fault_of undone.Lost cell = Disk cell
fault_of undone.Memory cell = Memory
