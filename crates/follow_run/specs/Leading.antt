-- What is read of the first file.
use Rattle.std.specs.Prelude.{◌≡◌, ◌⊎◌, ◌≤◌, ℕ, List, length, Some, None}
use Rattle.causes.specs.Causes.{Rose}
use Rattle.disk_trait.specs.Drive.{Drive, Stays}
use Rattle.cell_format.specs.declared.cell.Cell.{Cell}
use Rattle.log_state.specs.Recovers.{Recovers}
use Rattle.recovery.specs.Faults.{IsInBytes, IsFault}
use Rattle.zorder.specs.Width.{IsWidth}
use Rattle.recovery.specs.declared.seen.OpenFault.{OpenFault}
use Rattle.follower.specs.Holding.{AreLeading, most_followed}
use Rattle.run_ends.specs.declared.refusals.Refusal.{Refusal}
use Rattle.run_ends.specs.declared.refusals.Refusal.TheVariants as refusal
use Rattle.run_ends.specs.LogFaults.{IsReadingCause, log_refusal}
use Rattle.run_ends.specs.Limits.{oldest_read}
use Rattle.log_run.specs.Checking.{HasReadLog, HasReadUnless}

-- A leader's cells. If the drive's bytes are known, they recover to these cells.
pub record FindsLeader (w : ℕ) (old : Drive) (cells : List Cell) : Type 0 where
  pub leading : AreLeading w cells
  pub recovers : (bytes : List ℕ) → old.bytes ≡ Some bytes → Recovers w cells bytes

-- The bytes of a log that is read, with few enough cells.
pub record RecoversLeader (w : ℕ) (cells : List Cell) (drive : Drive) : Type 0 where
  pub known : IsWidth w
  pub bytes : List ℕ
  pub told : drive.bytes ≡ Some bytes
  pub recovers : Recovers w cells bytes
  pub few : length cells ≤ most_followed

-- Why the leader's cells aren't read, of a log of either version with at most 1,048,576 cells.
abbrev pub IsLeaderCause : Drive → Drive → Refusal → Type 0
IsLeaderCause old new why = IsReadingCause oldest_read most_followed old new why

-- The cells and the width of a log of either width were read. If the bytes are known, they recover to no other cells,
-- and have no fault.
pub record HasLeader (w : ℕ) (old : Drive) (cells : List Cell) : Type 0 where
  pub found : FindsLeader w old cells
  pub only : (v : ℕ) (all : List Cell) → RecoversLeader v all old → (w ≡ v) × (cells ≡ all)
  pub sound : (bytes : List ℕ) (fault : OpenFault) → old.bytes ≡ Some bytes → IsInBytes fault
      → IsFault oldest_read None most_followed bytes fault → ⊥

-- The file was attached and its cells were read.
pub record ReadsLeader (file : List ℕ) (w : ℕ) (old new : Drive) (cells : List Cell) : Type 0 where
  pub has : HasLeader w old cells
  pub read : HasReadLog file old new
  pub stays : Stays old new

-- The file wasn't attached, or its cells weren't read.
pub record LosesLeader (file : List ℕ) (old new : Drive) (why : Refusal) : Type 0 where
  pub cause : IsLeaderCause old new why
  pub exact :
      (bytes : List ℕ) (fault : OpenFault) → old.bytes ≡ Some bytes → IsInBytes fault → IsFault oldest_read None most_followed bytes fault
      → (Rose old.faults new.faults → ⊥)
      → (why ≡ log_refusal fault) ⊎ (why ≡ refusal.Memory)
  pub whole : (w : ℕ) (cells : List Cell) → RecoversLeader w cells old → (Rose old.faults new.faults → ⊥) → why ≡ refusal.Memory
  pub read : HasReadUnless file old new why
  pub stays : Stays old new
