-- The opening of a log whose number of cells is known.
use Rattle.std.specs.Prelude.{◌≡◌, ◌≢◌, ◌⊎◌, ℕ, ◌≤◌, min, true, false, List, length, Some, None, is_some}
use Rattle.causes.specs.Causes.{Rose}
use Rattle.cell_format.specs.declared.cell.Cell.{Cell}
use Rattle.cell_format.specs.Spelling.{newest}
use Rattle.disk_trait.specs.Drive.{Drive, MadeWell, SameFile}
use Rattle.split_log.specs.LogText.{IsLog}
use Rattle.split_log.specs.LogView.{LogView, most_cells}
use Rattle.log_state.specs.Recovers.{Recovers}
use Rattle.recovery.specs.declared.seen.OpenFault.{OpenFault}
use Rattle.recovery.specs.declared.seen.OpenFault.TheVariants as open_fault
use Rattle.recovery.specs.Faults.{IsFault}
use Rattle.recovery.specs.Wanted.{MayTell}
use Rattle.recovery.specs.Opening.{CallsRefused, CallsToOpen, KeepsCells, KeepsNewest, IsUntouched}
use Rattle.follower.specs.declared.faults.FollowFault.{FollowFault}
use Rattle.follower.specs.declared.faults.FollowFault.TheVariants.{Strange, Log}
use Rattle.follower.specs.Faults.{is_drives}

-- The log was opened. It has `count` cells, which the bytes recovered to, and no device call failed.
pub record Reopens {D : Type 0} (drive : D → Drive) (w count : ℕ) (old : Drive) (log : LogView D) : Type 0 where
  pub cells : log.cells ≡ count
  pub sound : log.failed ≡ None
  pub text : (bytes : List ℕ) → old.bytes ≡ Some bytes
      → (own : List Cell) × (length own ≡ count) × Recovers w own bytes × IsLog w own (drive log.disk)
  pub told : is_some (drive log.disk).bytes ≡ is_some old.bytes
  pub calm : (drive log.disk).faults ≡ old.faults
  pub calls : CallsToOpen count old (drive log.disk)
  pub file : SameFile old (drive log.disk)
  pub any_moment : KeepsCells w old (drive log.disk)
  pub newest : KeepsNewest old (drive log.disk)

-- The lesser of `count` and another number of cells, which the drive reported.
abbrev pub IsLesserOf : ℕ → ℕ → Type 0
IsLesserOf count number = (other : ℕ) × (other ≢ count) × (number ≡ min count other)

-- Why the log wasn't opened. It has another number of cells, which can't be if its bytes recover to `count` cells. Or
-- `recovery` refused it.
abbrev pub IsReopenCause : ℕ → ℕ → Drive → FollowFault → Type 0
IsReopenCause w count old (Strange number) =
    IsLesserOf count number × ((bytes : List ℕ) (own : List Cell) → old.bytes ≡ Some bytes → Recovers w own bytes → length own ≡ count → ⊥)
IsReopenCause w count old (Log fault) = (bytes : List ℕ) → old.bytes ≡ Some bytes → IsFault newest (Some w) most_cells bytes fault
IsReopenCause w count old _ = ⊥

-- The calls of such an opening. No call follows one that failed.
abbrev pub CallsUnopened : FollowFault → Drive → Drive → Type 0
CallsUnopened (Strange number) old new = MadeWell 1 old new ⊎ MadeWell 3 old new
CallsUnopened (Log fault) old new = CallsRefused fault old new
CallsUnopened _ old new = ⊥

pub record RefusesReopen (w count : ℕ) (old new : Drive) (fault : FollowFault) : Type 0 where
  pub cause : IsReopenCause w count old fault
  pub may : (why : OpenFault) → fault ≡ Log why → MayTell newest (Some w) most_cells why
  pub told : is_some new.bytes ≡ is_some old.bytes
  pub rose : is_drives fault ≡ true → Rose old.faults new.faults
  pub calm : is_drives fault ≡ false → new.faults ≡ old.faults
  pub untouched : (why : OpenFault) → fault ≡ Log why → why ≢ open_fault.Disk → IsUntouched old new
  pub later : old.faults ≤ new.faults
  pub calls : CallsUnopened fault old new
  pub file : SameFile old new
  pub any_moment : KeepsCells w old new
  pub newest : KeepsNewest old new
