-- Cells that are written after the clear commit byte of an empty log.
use Rattle.std.specs.Prelude.{◌≡◌, ℕ, ◌+◌, List, [], ◌∷◌, ◌++◌, length, Option, Some, None, is_some}
use Rattle.std.specs.List.{AllByRecursion}
use Rattle.cell_format.specs.declared.cell.Cell.{Cell}
use Rattle.cell_format.specs.Spelling.{newest, IsCell}
use Rattle.disk_trait.specs.Drive.{Drive, SameFile}
use Rattle.disk_trait.specs.Moments.{LeavesOnly}
use Rattle.split_log.specs.LogText.{front_of, behind_first, IsLog, HoldsCells}
use Rattle.recovery.specs.Calls.{AllWentWell}

-- The cells that are left, with one that was removed already.
abbrev pub and_taken : Option Cell → List Cell → List Cell
and_taken None cells = []
and_taken (Some cell) cells = cell ∷ cells

abbrev pub AreCells : List Cell → Type 0
AreCells cells = AllByRecursion (IsCell newest) cells

-- The bytes of an empty log with this commit byte, and this tail after it.
abbrev pub staged : ℕ → ℕ → List ℕ → List ℕ
staged w commit_byte tail = front_of newest w [] ++ commit_byte ∷ tail

-- A file of 17 bytes, if its content is known.
abbrev pub IsEmpty : Drive → Type 0
IsEmpty drive = (xs : List ℕ) → drive.bytes ≡ Some xs → length xs ≡ 17

-- All cells except the rest were written after the commit byte of an empty log, up to the place `at`. A crash leaves
-- none of them.
pub record IsStaging (all rest : List Cell) (at : ℕ) (start now : Drive) : Type 0 where
  pub sent : List ℕ
  pub parts : behind_first all ≡ sent ++ behind_first rest
  pub at_is : at ≡ 17 + length sent
  pub whole : (xs : List ℕ) → now.bytes ≡ Some xs → length xs ≡ at
  pub bytes : (w : ℕ) (log : IsLog w [] start) → now.bytes ≡ Some (staged w log.text.commit_byte sent)
  pub alone : (w : ℕ) → IsLog w [] start → LeavesOnly start now (HoldsCells newest w [])
  pub fits : AreCells rest → AreCells all
  pub told : is_some now.bytes ≡ is_some start.bytes
  pub same : now.faults ≡ start.faults
  pub calls : AllWentWell start now
  pub file : SameFile start now
