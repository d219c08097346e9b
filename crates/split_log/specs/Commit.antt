-- What setting a commit byte requires of the drive, and what it leaves there.
use Rattle.std.specs.Prelude.{◌≡◌, ◌≢◌, ℕ, ◌+◌, ◌*◌, ◌≤◌, List, [], Some, length}
use Rattle.std.specs.List.{AllByRecursion}
use Rattle.cell_format.specs.declared.cell.Cell.{Cell}
use Rattle.cell_format.specs.Spelling.{newest, IsCell}
use Rattle.disk_trait.specs.Drive.{Drive, StopsAfter}
use Rattle.disk_trait.specs.Moments.{LeavesOnly, LeavesNow}
use Rattle.split_log.specs.LogText.{HoldsCells, IsStaged}

-- The file holds `cells`. After the commit byte at `at` it holds `more`, which need not be synced. A crash leaves
-- `cells` alone.
pub record IsUncommitted (width at : ℕ) (cells more : List Cell) (drive : Drive) : Type 0 where
  pub cells_fit : AllByRecursion (IsCell newest) cells
  pub more_fit : AllByRecursion (IsCell newest) more
  pub some : more ≢ []
  pub at_is : at ≡ 16 + 32 * length cells
  pub bytes : List ℕ
  pub told : drive.bytes ≡ Some bytes
  pub staged : IsStaged width cells more bytes
  pub alone : LeavesNow drive (HoldsCells newest width cells)

-- What is on the drive after a failed append: a write of cells after a commit byte, then the three calls that set it.
-- The first `went_well` calls went well, and the next one failed. If the write or the first sync failed, no crash
-- leaves any of the new cells. If a later call failed, every image has them whole after that commit byte, which may be
-- clear or set.
pub record StandsAfter (width : ℕ) (cells more : List Cell) (went_well : ℕ) (old new : Drive) : Type 0 where
  pub unstaged : went_well ≤ 1 → LeavesOnly old new (HoldsCells newest width cells)
  pub staged : 2 ≤ went_well → LeavesNow new (IsStaged width cells more)

-- One of the three calls failed, after the write had gone well.
pub record StopsCommit (at : ℕ) (old new : Drive) : Type 0 where
  pub went_well : ℕ
  pub stops : StopsAfter 2 went_well old new
  pub leaves : (w : ℕ) (cells more : List Cell) → IsUncommitted w at cells more old → StandsAfter w cells more (went_well + 1) old new
