-- What a walk over a log says about its cells, compared with those of the leader.
use Rattle.std.specs.Prelude.{◌≡◌, ◌≢◌, ◌⊎◌, ℕ, ◌+◌, ◌≤◌, ◌<◌, List, length, take, Some, Result, Ok, Err}
use Rattle.causes.specs.Causes.{Rose}
use Rattle.cell_format.specs.declared.cell.Cell.{Cell}
use Rattle.cell_format.specs.Spelling.{newest}
use Rattle.disk_trait.specs.Drive.{Drive, Stays, SameFile}
use Rattle.log_state.specs.Recovers.{Recovers}
use Rattle.recovery.specs.declared.seen.OpenFault.{OpenFault}
use Rattle.recovery.specs.declared.seen.OpenFault.TheVariants as open_fault
use Rattle.recovery.specs.Faults.{IsFault}
use Rattle.recovery.specs.Walks.{WalkView, ComesTo}
use Rattle.recovery.specs.Wanted.{MayTell}
use Rattle.follower.specs.declared.comparing.Tally.{Tally}
use Rattle.follower.specs.Opening.{IsOpenable, most_held}

-- The drive was only read, and no call failed.
pub record IsOnlyRead (old new : Drive) : Type 0 where
  pub stays : Stays old new
  pub calm : new.faults ≡ old.faults
  pub file : SameFile old new

-- The number of cells, and how many of the first ones are the leader's.
pub record IsTally (cells own : List Cell) (tally : Tally) : Type 0 where
  pub count_is : length own ≡ tally.count
  pub few : tally.same ≤ tally.count
  pub within : tally.same ≤ length cells
  pub same_is : take tally.same own ≡ take tally.same cells
  pub other : tally.same < tally.count → take (tally.same + 1) own ≢ take (tally.same + 1) cells

-- A walk has come past these cells of a log. The log was only read.
pub record IsCounting {D : Type 0} (w : ℕ) (cells : List Cell) (old new : Drive) (walk : WalkView D) (tally : Tally) : Type 0 where
  pub own : List Cell
  pub came : ComesTo w most_held own new walk
  pub tally_is : IsTally cells own tally
  pub reads : IsOnlyRead old new

-- These are all cells of the log.
pub record Counts {D : Type 0} (w : ℕ) (cells : List Cell) (old new : Drive) (walk : WalkView D) (tally : Tally) : Type 0 where
  pub own : List Cell
  pub came : ComesTo w most_held own new walk
  pub tally_is : IsTally cells own tally
  pub whole : (bytes : List ℕ) → old.bytes ≡ Some bytes → Recovers w own bytes

-- Or the log has this fault after them, for a reader of versions 1 and 2.
pub record StopsCounting {D : Type 0} (w : ℕ) (old new : Drive) (walk : WalkView D) (fault : OpenFault) : Type 0 where
  pub own : List Cell
  pub came : ComesTo w most_held own new walk
  pub cause : (bytes : List ℕ) → old.bytes ≡ Some bytes → IsFault 1 (Some w) most_held bytes fault
  pub may : MayTell newest (Some w) most_held fault

-- The result for a log of this version. Only the newest version is opened. A failure of the drive comes first.
abbrev pub IsJudged : ℕ → ℕ → Result Tally OpenFault → Result Tally OpenFault → Type 0
IsJudged version w counted (Ok tally) = (version ≡ newest) × (counted ≡ Ok tally)
IsJudged version w counted (Err fault) =
    ((counted ≡ Err fault) × ((version ≡ newest) ⊎ (fault ≡ open_fault.Disk)))
    ⊎ ((fault ≡ open_fault.OldLog version w) × (version < newest) × (counted ≢ Err open_fault.Disk))

-- A log that may be opened. It has `count` cells, and exactly `same` of its first ones are the leader's.
pub record IsCompared (w : ℕ) (cells : List Cell) (bytes : List ℕ) (count same : ℕ) : Type 0 where
  pub own : List Cell
  pub openable : IsOpenable w own bytes
  pub count_is : length own ≡ count
  pub same_is : take same own ≡ take same cells
  pub other : same < count → take (same + 1) own ≢ take (same + 1) cells

-- A log was walked to its end.
pub record Compares (w : ℕ) (cells : List Cell) (old new : Drive) (count same : ℕ) : Type 0 where
  pub few : same ≤ count
  pub within : same ≤ length cells
  pub found : (bytes : List ℕ) → old.bytes ≡ Some bytes → IsCompared w cells bytes count same
  pub reads : IsOnlyRead old new

-- A log wasn't walked to its end. It may not be opened, the drive failed, or memory ran out.
pub record RefusesCompare (w : ℕ) (old new : Drive) (fault : OpenFault) : Type 0 where
  pub cause : (bytes : List ℕ) → old.bytes ≡ Some bytes → IsFault newest (Some w) most_held bytes fault
  pub may : MayTell newest (Some w) most_held fault
  pub rose : fault ≡ open_fault.Disk → Rose old.faults new.faults
  pub calm : fault ≢ open_fault.Disk → new.faults ≡ old.faults
  pub stays : Stays old new
  pub later : old.faults ≤ new.faults
  pub file : SameFile old new
