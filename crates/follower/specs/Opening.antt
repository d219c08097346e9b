-- The opening of a follower, and why it is refused.
use Rattle.std.specs.Prelude.{◌≡◌, ◌≢◌, ◌⊎◌, ℕ, ◌+◌, ◌≤◌, ◌<◌, true, false, List, length, take, slice_index, Some, None, is_some}
use Rattle.causes.specs.Causes.{Rose}
use Rattle.cell_format.specs.declared.cell.Cell.{Cell}
use Rattle.cell_format.specs.Spelling.{newest}
use Rattle.disk_trait.specs.Drive.{Drive, HasNoMore, MadeWell, StopsAfter, SameFile}
use Rattle.disk_trait.specs.Moments.{LeavesNow, LeavesOnly}
use Rattle.split_log.specs.LogText.{IsLog}
use Rattle.split_log.specs.LogView.{LogView, most_cells}
use Rattle.log_state.specs.Recovers.{Recovers}
use Rattle.recovery.specs.declared.seen.OpenFault.{OpenFault}
use Rattle.recovery.specs.Faults.{IsFault}
use Rattle.recovery.specs.Wanted.{MayTell}
use Rattle.recovery.specs.Making.{IsSmall}
use Rattle.recovery.specs.Opening.{CallsToOpen, KeepsNewest, IsUntouched}
use Rattle.follower.specs.declared.faults.FollowFault.{FollowFault}
use Rattle.follower.specs.declared.faults.FollowFault.TheVariants.{Strange, Log, Append, Disk, Memory}
use Rattle.follower.specs.Follow.{opened_with}
use Rattle.follower.specs.Holding.{FollowerView, HoldsFirst, IsUntold}
use Rattle.follower.specs.Faults.{is_drives}
use Rattle.follower.specs.Reopening.{CallsUnopened}

-- The most cells of a log that a follower opens: as many as any log may have.
abbrev pub most_held : ℕ
most_held = most_cells

-- A log that may be opened. The bytes recover to these cells, which are few enough, in the newest version.
pub record IsOpenable (w : ℕ) (own : List Cell) (bytes : List ℕ) : Type 0 where
  pub recovers : Recovers w own bytes
  pub version : slice_index bytes 8 ≡ newest
  pub few : length own ≤ most_held

-- A log that may be opened, and the number of its first cell that isn't the leader's cell of that number.
pub record IsStrange (w : ℕ) (cells : List Cell) (bytes : List ℕ) (number : ℕ) : Type 0 where
  pub own : List Cell
  pub openable : IsOpenable w own bytes
  pub there : number < length own
  pub same : take number own ≡ take number cells
  pub other : take (number + 1) own ≢ take (number + 1) cells

-- Bytes that a follower accepts. They are small, and it creates a log. Or they are a log that may be opened, and has
-- the first `held` cells.
abbrev pub IsTaken : ℕ → List Cell → List ℕ → ℕ → Type 0
IsTaken w cells bytes held = (IsSmall bytes × (held ≡ 0)) ⊎ ((17 < length bytes) × (held ≤ length cells) × IsOpenable w (take held cells) bytes)

-- If the bytes are known, they are at most 17. `IsLong` says that they are more.
abbrev pub IsShort : Drive → Type 0
IsShort drive = (bytes : List ℕ) → drive.bytes ≡ Some bytes → IsSmall bytes

abbrev pub IsLong : Drive → Type 0
IsLong drive = (bytes : List ℕ) → drive.bytes ≡ Some bytes → 17 < length bytes

-- The calls that open a follower with `held` cells. A write and a sync create a log. Over a longer file they are the
-- calls that open a log.
abbrev pub CallsToFollow : ℕ → Drive → Drive → Type 0
CallsToFollow held old new = (IsShort old × (held ≡ 0) × MadeWell 2 old new) ⊎ (IsLong old × CallsToOpen held old new)

-- A follower was opened over a drive. It holds what it found there, or nothing if it created the log.
pub record Opens {D : Type 0} (drive : D → Drive) (w : ℕ) (cells : List Cell) (old : Drive) (new : FollowerView D) : Type 0 where
  pub state : new.state ≡ opened_with new.state.held
  pub width : new.width ≡ w
  pub holds : HoldsFirst drive cells new
  pub found : (bytes : List ℕ) → old.bytes ≡ Some bytes → IsTaken w cells bytes new.state.held
  pub told : is_some (drive new.disk).bytes ≡ is_some old.bytes
  pub calm : (drive new.disk).faults ≡ old.faults
  pub calls : CallsToFollow new.state.held old (drive new.disk)
  pub file : SameFile old (drive new.disk)

-- Why no follower was opened. `Disk` means that the drive failed before the length was known, or while a log was
-- created. A drive that failed at a log gives `Log`.
abbrev pub IsOpenCause : ℕ → List Cell → Drive → Drive → FollowFault → Type 0
IsOpenCause w cells old new (Strange number) =
    (number ≤ length cells) × ((bytes : List ℕ) → old.bytes ≡ Some bytes → IsStrange w cells bytes number)
IsOpenCause w cells old new (Log fault) = (bytes : List ℕ) → old.bytes ≡ Some bytes → (17 < length bytes) × IsFault newest (Some w) most_held bytes fault
IsOpenCause w cells old new (Append cell) = ⊥
IsOpenCause w cells old new Disk = (bytes : List ℕ) → old.bytes ≡ Some bytes → 17 < length bytes → HasNoMore old.calls new.calls
IsOpenCause w cells old new Memory = ⊥

-- The calls of such an opening: none over a log that was only walked, those of an opening that was refused, or those of
-- creating a log, up to the one that failed. If the bytes are known, a log of other cells is only walked.
abbrev pub CallsNotToFollow : FollowFault → Drive → Drive → Type 0
CallsNotToFollow (Strange number) old new = HasNoMore old.calls new.calls ⊎ (IsUntold old × CallsUnopened (Strange number) old new)
CallsNotToFollow (Log fault) old new = HasNoMore old.calls new.calls ⊎ CallsUnopened (Log fault) old new
CallsNotToFollow (Append cell) old new = ⊥
CallsNotToFollow Disk old new = HasNoMore old.calls new.calls ⊎ ((went_well : ℕ) × StopsAfter 1 went_well old new)
CallsNotToFollow Memory old new = ⊥

-- No follower was opened, and this is why. If the drive didn't fail, its fault count is unchanged, and so is its file
-- if its bytes are known. No call follows one that failed.
pub record RefusesOpen (w : ℕ) (cells : List Cell) (old new : Drive) (fault : FollowFault) : Type 0 where
  pub cause : IsOpenCause w cells old new fault
  -- Whether the bytes are known or not.
  pub may : (why : OpenFault) → fault ≡ Log why → MayTell newest (Some w) most_held why
  pub told : is_some new.bytes ≡ is_some old.bytes
  pub rose : is_drives fault ≡ true → Rose old.faults new.faults
  pub calm : is_drives fault ≡ false → new.faults ≡ old.faults
  pub untouched : is_drives fault ≡ false → (bytes : List ℕ) → old.bytes ≡ Some bytes → IsUntouched old new
  pub later : old.faults ≤ new.faults
  pub calls : CallsNotToFollow fault old new
  pub file : SameFile old new

-- What a crash leaves at each moment of an opening, if the bytes are known, whatever the result is. It leaves a small
-- file if it left one before. If the file is longer, it leaves the cells and the version that it left before. A file
-- that a follower doesn't accept stays unchanged.
pub record KeepsTarget (w : ℕ) (cells : List Cell) (old new : Drive) : Type 0 where
  pub small : (bytes : List ℕ) → old.bytes ≡ Some bytes → LeavesNow old IsSmall → LeavesOnly old new IsSmall
  pub log : (bytes : List ℕ) (own : List Cell) → old.bytes ≡ Some bytes → 17 < length bytes → LeavesNow old (Recovers w own)
      → LeavesOnly old new (Recovers w own)
  pub newest : (bytes : List ℕ) → old.bytes ≡ Some bytes → 17 < length bytes → KeepsNewest old new
  pub other : (bytes : List ℕ) → old.bytes ≡ Some bytes → ((held : ℕ) → IsTaken w cells bytes held → ⊥) → IsUntouched old new

-- The log of a follower was opened or created. Its cells are the leader's first ones, and no device call failed.
pub record OpensLog {D : Type 0} (drive : D → Drive) (w : ℕ) (cells : List Cell) (old : Drive) (log : LogView D) : Type 0 where
  pub sound : log.failed ≡ None
  pub few : log.cells ≤ length cells
  pub found : (bytes : List ℕ) → old.bytes ≡ Some bytes → IsTaken w cells bytes log.cells × IsLog w (take log.cells cells) (drive log.disk)
  pub told : is_some (drive log.disk).bytes ≡ is_some old.bytes
  pub calm : (drive log.disk).faults ≡ old.faults
  pub calls : CallsToFollow log.cells old (drive log.disk)
  pub file : SameFile old (drive log.disk)
