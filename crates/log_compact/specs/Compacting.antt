-- What writing a fresh log leaves.
use Rattle.std.specs.Prelude.{◌≡◌, ◌⊎◌, ℕ, ◌<◌, ◌≤◌, List, [], length, Some, is_some}
use Rattle.causes.specs.Causes.{Rose}
use Rattle.disk_trait.specs.Drive.{Drive, SameFile, Stays, IsSynced}
use Rattle.disk_trait.specs.Moments.{LeavesNow, LeavesOnly}
use Rattle.cell_format.specs.declared.cell.Cell.{Cell}
use Rattle.split_log.specs.LogText.{IsLog}
use Rattle.log_state.specs.Recovers.{Recovers}
use Rattle.recovery.specs.Calls.{AllWentWell, StopsAtFault}
use Rattle.recovery.specs.Found.{IsNewest}
use Rattle.recovery.specs.Making.{IsSmall}
use Rattle.recovery.specs.declared.seen.InitFault.{InitFault}
use Rattle.recovery.specs.declared.seen.InitFault.TheVariants as init
use Rattle.log_compact.specs.declared.compacting.CompactFault.{CompactFault}
use Rattle.log_compact.specs.declared.compacting.CompactFault.TheVariants.{InUse, Disk}

-- Why no log was created, as `compact` returns it.
abbrev pub fault_of : InitFault → CompactFault
fault_of (init.InUse len) = InUse len
fault_of init.Disk = Disk

-- A log of these cells was created in a small file. Its content is known if and only if it was before. Nothing is
-- pending, and no device call failed.
pub record IsCompacted (w : ℕ) (cells : List Cell) (old new : Drive) : Type 0 where
  pub log : (bytes : List ℕ) → old.bytes ≡ Some bytes → IsSmall bytes × IsLog w cells new
  pub told : is_some new.bytes ≡ is_some old.bytes
  pub synced : IsSynced new
  pub same : new.faults ≡ old.faults
  pub calls : AllWentWell old new

-- The drive failed, and no call follows the one that failed.
pub record FailsToCompact (old new : Drive) : Type 0 where
  pub rose : Rose old.faults new.faults
  pub told : is_some new.bytes ≡ is_some old.bytes
  pub calls : StopsAtFault old new

-- Why no log was written. Either the file is longer: then it is unchanged, and no device call failed. Or the drive
-- failed.
abbrev pub RefusesCompact : Drive → Drive → CompactFault → Type 0
RefusesCompact old new (InUse len) =
    (17 < len) × ((bytes : List ℕ) → old.bytes ≡ Some bytes → len ≡ length bytes) × Stays old new × (new.faults ≡ old.faults)
RefusesCompact old new Disk = FailsToCompact old new

-- An image in between: a small file, or a log of no cell or of all cells in the newest version.
abbrev pub IsOnWay : ℕ → List Cell → List ℕ → Type 0
IsOnWay w cells image = IsSmall image ⊎ (Recovers w [] image × IsNewest image) ⊎ (Recovers w cells image × IsNewest image)

-- If the file's content was known and a crash left a small file before, a crash leaves an image in between at each
-- moment. A file that isn't small stays unchanged, whatever the result is. The fault count doesn't fall.
pub record KeepsOnWay (w : ℕ) (cells : List Cell) (old new : Drive) : Type 0 where
  pub on_way : (bytes : List ℕ) → old.bytes ≡ Some bytes → LeavesNow old IsSmall → LeavesOnly old new (IsOnWay w cells)
  pub in_use : (bytes : List ℕ) → old.bytes ≡ Some bytes → 17 < length bytes → Stays old new
  pub later : old.faults ≤ new.faults
  pub file : SameFile old new
