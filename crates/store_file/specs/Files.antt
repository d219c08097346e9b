-- The log in a file, which is created if there is none, and opened.
use Rattle.std.specs.Prelude.{◌≡◌, ◌⊎◌, ℕ, ◌<◌, ◌≤◌, true, List, [], length, Some, is_some}
use Rattle.cell_format.specs.declared.cell.Cell.{Cell}
use Rattle.cell_format.specs.Spelling.{newest}
use Rattle.disk_trait.specs.Drive.{Drive, AttachedOne, Stays}
use Rattle.disk_trait.specs.Moments.{LeavesNow, LeavesOnly}
use Rattle.split_log.specs.LogText.{IsLog}
use Rattle.split_log.specs.LogView.{most_cells}
use Rattle.log_state.specs.Recovers.{Recovers}
use Rattle.recovery.specs.declared.seen.OpenFault.{OpenFault}
use Rattle.recovery.specs.declared.seen.Seen.{Seen}
use Rattle.recovery.specs.Calls.{AllWentWell}
use Rattle.recovery.specs.Faults.{IsFault, IsInBytes}
use Rattle.recovery.specs.Found.{IsFound, IsNewest}
use Rattle.recovery.specs.Making.{IsSmall}
use Rattle.recovery.specs.Opening.{IsReady, KeepsCells}

-- A small file, or a log of no cells. A crash may leave this while a small file becomes a log and is opened.
abbrev pub IsUnmade : ℕ → List ℕ → Type 0
IsUnmade w bytes = IsSmall bytes ⊎ Recovers w [] bytes

-- At any moment a crash leaves the cells of the log that was in the file. If the file was small, a log is created in
-- it. A crash then leaves a small file, or a log of no cells.
pub record KeepsFile (w : ℕ) (old new : Drive) : Type 0 where
  pub in_use : (bytes : List ℕ) → old.bytes ≡ Some bytes → 17 < length bytes → KeepsCells w old new
  pub small : (bytes : List ℕ) → old.bytes ≡ Some bytes → LeavesNow old IsSmall → LeavesOnly old new (IsUnmade w)

-- A file was attached, and has a log. A small file became a log of no cells, and a longer one is unchanged. No device
-- call failed.
pub record ReadiesLog (w : ℕ) (file : List ℕ) (old start : Drive) : Type 0 where
  pub attached : AttachedOne file true old start
  pub calm : start.faults ≡ old.faults
  pub told : is_some start.bytes ≡ is_some old.bytes
  pub calls : AllWentWell old start
  pub in_use : (bytes : List ℕ) → old.bytes ≡ Some bytes → 17 < length bytes → Stays old start
  pub small : (bytes : List ℕ) → old.bytes ≡ Some bytes → IsSmall bytes → IsLog w [] start
  pub keeps : KeepsFile w old start

-- The log of the file was opened. It has at most as many cells as a log may have.
pub record OpensFile (w : ℕ) (file : List ℕ) (old start now : Drive) (seen : Seen) : Type 0 where
  pub readies : ReadiesLog w file old start
  pub found : IsFound newest w most_cells start seen
  pub ready : IsReady w seen start now
  pub keeps : KeepsCells w start now

-- The cells that are found in bytes. In the bytes of a small file there are none.
abbrev pub FindsCells : ℕ → List Cell → List ℕ → Type 0
FindsCells w cells bytes = (IsSmall bytes × (cells ≡ [])) ⊎ ((17 < length bytes) × Recovers w cells bytes)

-- The bytes of a file show this fault. They are more than 17, and no log that a store may continue with.
pub record ShowsFault (w : ℕ) (drive : Drive) (fault : OpenFault) : Type 0 where
  pub bytes : List ℕ
  pub told : drive.bytes ≡ Some bytes
  pub in_use : 17 < length bytes
  pub in_bytes : IsInBytes fault
  pub is : IsFault newest (Some w) most_cells bytes fault

-- Bytes that can be opened. Either the file is small, so a log is created in it. Or the bytes recover to cells in the
-- newest version, and these aren't too many for a log.
abbrev pub IsGoodFile : ℕ → List ℕ → Type 0
IsGoodFile w bytes = IsSmall bytes ⊎ ((cells : List Cell) × Recovers w cells bytes × IsNewest bytes × (length cells ≤ most_cells))

-- The bytes of the file are known, and can be opened.
pub record CanOpen (w : ℕ) (drive : Drive) : Type 0 where
  pub bytes : List ℕ
  pub told : drive.bytes ≡ Some bytes
  pub good : IsGoodFile w bytes
