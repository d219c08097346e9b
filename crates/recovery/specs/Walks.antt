-- A walk over the cells of a log, and how far it has come.
use Rattle.std.specs.Prelude.{◌≡◌, ◌⊎◌, ℕ, ◌+◌, ◌*◌, ◌≤◌, List, [], ◌∷◌, ◌++◌, length, Option, Some, None, Result, Ok, Err, ⊤}
use Rattle.cell_format.specs.declared.cell.Cell.{Cell}
use Rattle.disk_trait.specs.Drive.{Drive}
use Rattle.log_state.specs.Recovers.{IsLegalCells, Recovers}
use Rattle.recovery.specs.declared.seen.OpenFault.{OpenFault}
use Rattle.recovery.specs.declared.walked.Walked.{Walked}
use Rattle.recovery.specs.Faults.{IsInBytes, IsFault, RefusesRead}
use Rattle.recovery.specs.Found.{IsWanted, IsFree}
use Rattle.recovery.specs.Reading.{ReadingView, HasRead, IsBehind}
use Rattle.recovery.specs.Widths.{HasWidth, IsWidthOf}
use Rattle.recovery.specs.Wanted.{IsWidthFor}
pub use Rattle.recovery.specs.Faults.{IsOfHead}
pub use Rattle.recovery.specs.Walked.{object_of, place_in, IsNextWalked}

-- The drive, and how far its log was read.
pub record WalkView (D : Type 0) : Type 0 where
  pub disk : D
  pub reading : ReadingView

-- At most `most` cells of a log of this width were walked, and these are they. They are legal, and the file has room
-- for a commit byte after them. If the drive's bytes are known, they begin with a header of version 1 or 2, that width
-- and these cells.
pub record ComesTo {D : Type 0} (w most : ℕ) (cells : List Cell) (drive : Drive) (walk : WalkView D) : Type 0 where
  pub legal : IsLegalCells w cells
  pub few : length cells ≤ most
  pub wanted : IsWanted 1 walk.reading.replay.version
  pub width : walk.reading.replay.width ≡ w
  pub most_is : walk.reading.most ≡ most
  pub room : 17 + 32 * length cells ≤ walk.reading.len
  pub read : HasRead cells drive walk.reading

-- The same, for a width that logs have. If the bytes are known, they name it.
pub record ComesAlong {D : Type 0} (w most : ℕ) (cells : List Cell) (drive : Drive) (walk : WalkView D) : Type 0 where
  pub width : IsWidthOf drive w
  pub comes : ComesTo w most cells drive walk

-- What a call returns after these cells. It is the next cell, or `None`: then these are all, and the bytes recover to
-- them. Or it is the fault that comes next, in the bytes or outside them. `old` and `new` are the drive before and
-- after the call, and `walk` is the walk after it.
abbrev pub TellsWalked : {D : Type 0} → ℕ → ℕ → List Cell → Drive → Drive → WalkView D → Result (Option Walked) OpenFault → Type 0
TellsWalked w most cells old new walk (Ok (Some walked)) = ComesTo w most (cells ++ walked.cell ∷ []) new walk × IsNextWalked w cells walked
TellsWalked w most cells old new walk (Ok None) =
    ComesTo w most cells new walk × ((bytes : List ℕ) → old.bytes ≡ Some bytes → Recovers w cells bytes)
TellsWalked w most cells old new walk (Err e) =
    ComesTo w most cells new walk × IsBehind most (length cells) e × ((bytes : List ℕ) → old.bytes ≡ Some bytes → IsFault 1 (Some w) most bytes e)

-- If the bytes have this fault, a call returns a cell or the fault, and never the end.
abbrev pub TellsFault : OpenFault → Drive → Drive → Result (Option Walked) OpenFault → Type 0
TellsFault fault old new (Ok (Some walked)) = ⊤
TellsFault fault old new (Ok None) = ⊥
TellsFault fault old new (Err e) = (e ≡ fault) ⊎ IsFree old new e

-- If the bytes recover to all these cells, a call returns a cell, or the end after the last one, and no fault in the
-- bytes.
abbrev pub TellsAll : List Cell → List Cell → Drive → Drive → Result (Option Walked) OpenFault → Type 0
TellsAll all cells old new (Ok (Some walked)) = ⊤
TellsAll all cells old new (Ok None) = cells ≡ all
TellsAll all cells old new (Err e) = IsFree old new e

-- The walk is before the first cell of a wanted log of this width. The head of the log has no fault.
pub record BeginsWalk {D : Type 0} (wanted : Option ℕ) (most w : ℕ) (old new : Drive) (walk : WalkView D) : Type 0 where
  pub fits : IsWidthFor wanted w
  pub along : ComesAlong w most [] new walk
  pub sound : (bytes : List ℕ) (fault : OpenFault) → old.bytes ≡ Some bytes → IsInBytes fault → IsOfHead fault → IsFault 1 wanted most bytes fault → ⊥

-- Why no walk begins along a wanted log: its head has this fault, or memory or the drive failed.
pub record RefusesWalk (wanted : Option ℕ) (most : ℕ) (old new : Drive) (e : OpenFault) : Type 0 where
  pub fault : RefusesRead 1 wanted most old new e
  pub head : IsOfHead e
  pub named : (bytes : List ℕ) (w : ℕ) → old.bytes ≡ Some bytes → IsWidthFor wanted w → HasWidth w bytes → IsFree old new e
