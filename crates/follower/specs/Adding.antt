-- How a cell is added.
use Rattle.std.specs.Prelude.{◌≡◌, ℕ, ◌+◌, ◌≤◌, ◌<◌, List, [], ◌∷◌, ◌++◌, length, take, is_some}
use Rattle.causes.specs.Causes.{Rose}
use Rattle.cell_format.specs.declared.cell.Cell.{Cell}
use Rattle.disk_trait.specs.Drive.{Drive, MadeWell, StopsAfter, SameFile}
use Rattle.disk_trait.specs.Moments.{LeavesOnly, LeavesNow}
use Rattle.split_log.specs.LogText.{IsLog, HoldsEither}
use Rattle.follower.specs.declared.faults.FollowFault.{FollowFault}
use Rattle.follower.specs.declared.faults.FollowFault.TheVariants.{Append, Memory}
use Rattle.follower.specs.Follow.{Following, acknowledging, cell_of}
use Rattle.follower.specs.Holding.{FollowerView}

-- The packet carries the next cell, and this is it.
pub record IsNext (cells : List Cell) (packet : ℕ) (s : Following) (cell : Cell) : Type 0 where
  pub brings : cell_of packet s ≡ s.held
  pub below : s.held < length cells
  pub more : take (s.held + 1) cells ≡ take s.held cells ++ cell ∷ []

-- At each moment a crash leaves the cells of the log, with this one or without.
abbrev pub LeavesEither : Cell → Drive → Drive → Type 0
LeavesEither cell old new = (w : ℕ) (cells : List Cell) → IsLog w cells old → LeavesOnly old new (HoldsEither w cells cell)

-- The cell was added and acknowledged, and no device call failed.
pub record IsAdded {D : Type 0} (drive : D → Drive) (cell : Cell) (old new : FollowerView D) : Type 0 where
  pub state : new.state ≡ acknowledging (old.state.held + 1) old.state
  pub width : new.width ≡ old.width
  pub log : (w : ℕ) (cells : List Cell) → IsLog w cells (drive old.disk) → IsLog w (cells ++ cell ∷ []) (drive new.disk)
  pub told : is_some (drive new.disk).bytes ≡ is_some (drive old.disk).bytes
  pub calm : (drive new.disk).faults ≡ (drive old.disk).faults
  pub calls : MadeWell 4 (drive old.disk) (drive new.disk)
  pub file : SameFile (drive old.disk) (drive new.disk)
  pub any_moment : LeavesEither cell (drive old.disk) (drive new.disk)

-- A device call failed while the cell of this number was added. No call follows it.
pub record FailsToAdd (cell : Cell) (number held : ℕ) (old new : Drive) : Type 0 where
  pub named : number ≡ held
  pub rose : Rose old.faults new.faults
  pub told : is_some new.bytes ≡ is_some old.bytes
  pub later : old.faults ≤ new.faults
  pub calls : (went_well : ℕ) × StopsAfter 3 went_well old new
  pub file : SameFile old new
  pub now : (w : ℕ) (cells : List Cell) → IsLog w cells old → LeavesNow new (HoldsEither w cells cell)
  pub any_moment : LeavesEither cell old new

-- Why a cell wasn't added: memory ran out before any device call, or a device call failed.
abbrev pub IsLost : {D : Type 0} → (D → Drive) → Cell → FollowerView D → D → FollowFault → Type 0
IsLost drive cell old disk (Append number) = FailsToAdd cell number old.state.held (drive old.disk) (drive disk)
IsLost drive cell old disk Memory = disk ≡ old.disk
IsLost drive cell old disk _ = ⊥
