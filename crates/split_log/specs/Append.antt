-- What an append requires of the drive, and what it leaves there.
use Rattle.std.specs.Prelude.{◌≡◌, ◌≢◌, ℕ, ◌+◌, List, [], ◌∷◌, ◌++◌, Option, Some, None, is_some, length}
use Rattle.std.specs.List.{AllByRecursion}
use Rattle.causes.specs.Causes.{Rose}
use Rattle.cell_format.specs.declared.cell.Cell.{Cell}
use Rattle.cell_format.specs.Spelling.{newest, IsCell}
use Rattle.disk_trait.specs.Drive.{Drive, MadeWell, StopsAfter, SameFile}
use Rattle.disk_trait.specs.Moments.{LeavesNow}
use Rattle.split_log.specs.LogText.{IsLog, HoldsAllOrNone, behind_first}
use Rattle.split_log.specs.Commit.{StandsAfter}

-- The drive holds `cells`, and `piece` is the text of `more` as an append writes it. The first commit byte of `more` is
-- not part of the piece, and the piece ends with a clear commit byte.
pub record IsReady (width : ℕ) (cells more : List Cell) (piece : List ℕ) (drive : Drive) : Type 0 where
  pub log : IsLog width cells drive
  pub fits : AllByRecursion (IsCell newest) more
  pub some : more ≢ []
  pub piece_is : piece ≡ behind_first more

-- A device call failed in an append of a piece.
pub record Breaks (piece : List ℕ) (old new : Drive) : Type 0 where
  pub went_well : ℕ
  pub stops : StopsAfter 3 went_well old new
  pub leaves : (w : ℕ) (cells more : List Cell) → IsReady w cells more piece old → StandsAfter w cells more went_well old new

-- The number of device calls that add these cells: 4, or 0 for an empty list.
abbrev pub calls_to_add : List Cell → ℕ
calls_to_add [] = 0
calls_to_add (cell ∷ cells) = 4

-- A device call failed in an append of cells.
pub record AllBreakOff (more : List Cell) (old new : Drive) : Type 0 where
  pub went_well : ℕ
  pub stops : StopsAfter 3 went_well old new
  pub leaves : (w : ℕ) (cells : List Cell) → IsLog w cells old → StandsAfter w cells more went_well old new

-- The cells were added. The log has that many cells more, and a crash leaves the new cells after the old ones.
pub record AddsAll (more : List Cell) (before after : ℕ) (failed : Option ℕ) (old new : Drive) : Type 0 where
  pub count : after ≡ before + length more
  pub whole : failed ≡ None
  pub log : (w : ℕ) (cells : List Cell) → IsLog w cells old → IsLog w (cells ++ more) new
  pub told : is_some new.bytes ≡ is_some old.bytes
  -- Every call went well. Their number is `calls_to_add more`.
  pub calls : MadeWell (calls_to_add more) old new
  pub same : new.faults ≡ old.faults
  pub file : SameFile old new

-- A device call failed while the cells were added. The first of them has this number.
pub record AllFail (more : List Cell) (number before after : ℕ) (failed : Option ℕ) (old new : Drive) : Type 0 where
  -- The fault names the cell that would have been next. The log keeps that number and counts no more cells.
  pub named : number ≡ before
  pub kept : failed ≡ Some before
  pub count : after ≡ before
  pub told : is_some new.bytes ≡ is_some old.bytes
  pub rose : Rose old.faults new.faults
  pub file : SameFile old new
  -- A crash now leaves the old cells, followed by all of the new ones or none.
  pub either : (w : ℕ) (cells : List Cell) → IsLog w cells old → LeavesNow new (HoldsAllOrNone w cells more)
  -- No call follows the one that failed. Which call failed decides what is on the drive.
  pub broken : AllBreakOff more old new

-- One cell was added, by four calls.
abbrev pub Adds : Cell → ℕ → ℕ → Option ℕ → Drive → Drive → Type 0
Adds cell = AddsAll (cell ∷ [])

-- A device call failed while this one cell was added.
abbrev pub Fails : Cell → ℕ → ℕ → ℕ → Option ℕ → Drive → Drive → Type 0
Fails cell = AllFail (cell ∷ [])
