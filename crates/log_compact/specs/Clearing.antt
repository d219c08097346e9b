-- What the clearing of a log leaves.
use Rattle.std.specs.Prelude.{◌≡◌, ◌⊎◌, ℕ, ◌<◌, List, [], is_some}
use Rattle.causes.specs.Causes.{Rose}
use Rattle.disk_trait.specs.Drive.{Drive, HasNoMore, MadeWell, StopsAfter, SameFile, IsSynced}
use Rattle.disk_trait.specs.Moments.{LeavesOnly}
use Rattle.cell_format.specs.declared.cell.Cell.{Cell}
use Rattle.split_log.specs.LogText.{IsLog, HoldsAllOrNone}

-- The calls that clear a log of `count` cells: none if there are no cells, otherwise a write, a sync, a cut and a sync.
abbrev pub CallsToClear : ℕ → Drive → Drive → Type 0
CallsToClear count old new = ((count ≡ 0) × HasNoMore old.calls new.calls) ⊎ ((0 < count) × MadeWell 4 old new)

-- Up to three of these four calls went well, the next one failed, and no call follows it.
abbrev pub StopsClearing : Drive → Drive → Type 0
StopsClearing old new = (went_well : ℕ) × StopsAfter 3 went_well old new

-- A log of `count` cells became a log of no cells. Nothing is pending, and no device call failed.
pub record Clears (count : ℕ) (old new : Drive) : Type 0 where
  pub log : (w : ℕ) (cells : List Cell) → IsLog w cells old → IsLog w [] new
  pub synced : IsSynced new
  pub told : is_some new.bytes ≡ is_some old.bytes
  pub same : new.faults ≡ old.faults
  pub calls : CallsToClear count old new
  pub file : SameFile old new

-- The drive failed, and no call follows the one that failed.
pub record FailsToClear (old new : Drive) : Type 0 where
  pub told : is_some new.bytes ≡ is_some old.bytes
  pub rose : Rose old.faults new.faults
  pub calls : StopsClearing old new
  pub file : SameFile old new

-- At each moment a crash leaves all cells that the log had, or none.
abbrev pub KeepsOrClears : Drive → Drive → Type 0
KeepsOrClears old new = (w : ℕ) (cells : List Cell) → IsLog w cells old → LeavesOnly old new (HoldsAllOrNone w [] cells)
