-- The step of a batch: its records go to the log together, and its entries to the history.
use Rattle.std.specs.Prelude.{◌≡◌, ℕ, ◌+◌, ◌≤◌, Bool, true, false, List, [], ◌∷◌, ◌++◌, length, map, if◌then◌else◌, Option, Some, None, Result, Ok, Err}
use Rattle.cell_format.specs.declared.cell.Cell.{Cell}
use Rattle.plain_list.specs.declared.ops.Op.{Op}
use Rattle.plain_list.specs.declared.entries.Entry.{Entry}
use Rattle.plain_list.specs.declared.entries.Entry.TheVariants.{Fail}
use Rattle.plain_list.specs.declared.entries.Lost.TheVariants as lost
use Rattle.plain_list.specs.Answer.{is_change}
use Rattle.plain_list.specs.State.{OpenSplit}
use Rattle.disk_trait.specs.Drive.{Drive}
use Rattle.split_log.specs.LogView.{most_cells}
use Rattle.log_state.specs.Changes.{change_cells}
use Rattle.kept_log.specs.KeptView.{KeptView}
use Rattle.kept_log.specs.Journal.{AddedAll, AllMissed, LeavesNextAll, IsSinceIn, cells_in, failed_in}
use Rattle.kept_log.specs.declared.faults.AppendAllLost.{AppendAllLost}
use Rattle.kept_log.specs.declared.faults.AppendAllLost.TheVariants.{Disk, Memory}
use Rattle.point_table.specs.Drafts.{DraftView, Drafts}
use Rattle.point_table.specs.TableView.{TableView}
use Rattle.commit_book.specs.declared.batch_steps.BatchStep.{BatchStep}

-- the records of those operations that change the world, by a flag for each operation
abbrev pub flagged_cells : List Bool → List Op → List Cell
flagged_cells [] ops = []
flagged_cells (change ∷ changes) [] = []
flagged_cells (change ∷ changes) (op ∷ ops) = (if change then change_cells op else []) ++ flagged_cells changes ops

-- the failed appends of those operations that change the world; the first operation has this row
abbrev pub flagged_fails : ℕ → ℕ → ℕ → List Bool → List Op → List Entry
flagged_fails cell session row [] ops = []
flagged_fails cell session row (change ∷ changes) [] = []
flagged_fails cell session row (change ∷ changes) (op ∷ ops) =
    (if change then Fail cell (lost.Call session row op) ∷ [] else []) ++ flagged_fails cell session (row + 1) changes ops

-- a draft of a batch, which of its operations change the world, and their records
pub record Plans (splits : List OpenSplit) (table : TableView) (ops : List Op) (draft : DraftView) (changes : List Bool) (cells : List Cell) : Type 0 where
  pub drafts : Drafts splits table ops draft
  pub changes_are : changes ≡ map is_change draft.answers
  pub cells_are : cells ≡ flagged_cells changes ops

-- these records may be added: no append has failed, and the log has room for all
pub record CanStepAll {D : Type 0} (cells : List Cell) (log : Option (KeptView D)) : Type 0 where
  pub going : failed_in log ≡ None
  pub room : cells_in log + length cells ≤ most_cells

-- the records were added, and at every moment a crash leaves all of them or none
pub record AddsAll {D : Type 0} (drive : D → Drive) (cells : List Cell) (old new : Option (KeptView D)) : Type 0 where
  pub added : AddedAll drive cells old new
  pub any_moment : LeavesNextAll drive cells old new
  pub since : IsSinceIn old new

-- the drive failed while the records were added, and at every moment a crash leaves all of them or none
pub record MissesAll {D : Type 0} (drive : D → Drive) (cells : List Cell) (number : ℕ) (old new : Option (KeptView D)) : Type 0 where
  pub missed : AllMissed drive cells number old new
  pub any_moment : LeavesNextAll drive cells old new
  pub since : IsSinceIn old new

-- what is left of the log if the records were not added
abbrev pub AddsNone : {D : Type 0} → (D → Drive) → List Cell → AppendAllLost → Option (KeptView D) → Option (KeptView D) → Type 0
AddsNone drive cells (Disk number) old new = MissesAll drive cells number old new
AddsNone drive cells Memory old new = new ≡ old

-- the step was taken
pub record TakesAll {D : Type 0} (drive : D → Drive) (old new : BatchStep D) : Type 0 where
  pub same : new.journal.ghost_name ≡ old.journal.ghost_name
  pub adds : AddsAll drive old.cells.now old.journal.now new.journal.now

-- the step was not taken, for this reason
pub record LosesAll {D : Type 0} (drive : D → Drive) (old new : BatchStep D) : Type 0 where
  pub same : new.journal.ghost_name ≡ old.journal.ghost_name
  pub why : AppendAllLost
  pub why_is : new.lost ≡ Some why
  pub none : AddsNone drive old.cells.now why old.journal.now new.journal.now

-- If the batch changes the world, its records were added or not, as the result says. If not, the log is the same and
-- the result is Ok.
abbrev pub Adds : {D A : Type 0} → (D → Drive) → List Cell → Bool → Option (KeptView D) → Option (KeptView D) → Result A AppendAllLost → Type 0
Adds drive cells true old new (Ok _) = AddsAll drive cells old new
Adds drive cells true old new (Err why) = AddsNone drive cells why old new
Adds drive cells false old new (Ok _) = new ≡ old
Adds drive cells false old new (Err _) = ⊥
