-- The first fault in the bytes of a wanted log, and why the log isn't read.
use Rattle.std.specs.Prelude.{◌≡◌, ◌⊎◌, ℕ, ◌<◌, ◌≤◌, false, List, ◌++◌, length, take, slice_index, Option, Some, None, ⊤}
use Rattle.std.specs.List.{AllByRecursion}
use Rattle.cell_format.specs.declared.cell.Cell.{Cell}
use Rattle.cell_format.specs.declared.cell.Cause.{Cause}
use Rattle.cell_format.specs.declared.cell.Cause.TheVariants as cause
use Rattle.causes.specs.Causes.{Rose}
use Rattle.cell_format.specs.Spelling.{IsCell, Spells}
use Rattle.cell_format.specs.Faults.{HasNoKind, HasReserved, HasBadName}
use Rattle.split_log.specs.LogText.{front_of}
use Rattle.disk_trait.specs.Drive.{Drive}
use Rattle.recovery.specs.Found.{IsWanted, IsFree}
use Rattle.plain_list.specs.State.{State}
use Rattle.recovery.specs.declared.seen.OpenFault.{OpenFault}
use Rattle.recovery.specs.declared.seen.OpenFault.TheVariants.{NotLog, OldLog, Damaged, Disk, Memory, TooLong}
use Rattle.log_state.specs.Recovers.{IsLegalCells, Recovers, is_possible_cell, state_of}
use Rattle.recovery.specs.Wanted.{IsWidthFor, IsOtherFor, MayTell}
use Rattle.recovery.specs.Widths.{HasWidth}
use Rattle.zorder.specs.Width.{IsWidth}
pub use Rattle.recovery.specs.Widths.{HasOtherHead, IsNotLog}

-- The bytes begin with a header of this version and width. These cells follow, which are legal, and then this tail.
pub record BeginsWith (version w : ℕ) (cells : List Cell) (tail bytes : List ℕ) : Type 0 where
  pub cells_fit : AllByRecursion (IsCell version) cells
  pub legal : IsLegalCells w cells
  pub parts : bytes ≡ front_of version w cells ++ tail

-- What is wrong with the cell at the front of these bytes, in this version and state. Its commit byte is set.
abbrev pub IsWrong : ℕ → ℕ → State → List ℕ → Cause → Type 0
IsWrong v w s tail cause.ShortCell = length tail < 33
IsWrong v w s tail cause.Kind = (33 ≤ length tail) × HasNoKind (take 32 tail)
IsWrong v w s tail cause.Reserved = (33 ≤ length tail) × HasReserved v (take 32 tail)
IsWrong v w s tail cause.BadName = (33 ≤ length tail) × HasBadName v (take 32 tail)
IsWrong v w s tail cause.Impossible = (33 ≤ length tail) × (next : Cell) × Spells v next (take 32 tail) × (is_possible_cell w s next ≡ false)

-- The cell is the first one with a set commit byte that is cut short, has no spelling or is impossible. Its number is
-- below `most`.
pub record IsDamaged (oldest w most : ℕ) (bytes : List ℕ) (number : ℕ) (why : Cause) : Type 0 where
  pub version : ℕ
  pub wanted : IsWanted oldest version
  pub cells : List Cell
  pub tail : List ℕ
  pub begins : BeginsWith version w cells tail bytes
  pub place : length cells ≡ number
  pub few : number < most
  pub commit_byte : slice_index tail 0 ≡ 1
  pub wrong : IsWrong version w (state_of w cells) tail why

-- The first `most` cells are legal, and the next commit byte is set.
pub record IsTooLong (oldest w most : ℕ) (bytes : List ℕ) : Type 0 where
  pub version : ℕ
  pub wanted : IsWanted oldest version
  pub cells : List Cell
  pub tail : List ℕ
  pub begins : BeginsWith version w cells tail bytes
  pub place : length cells ≡ most
  pub commit_byte : slice_index tail 0 ≡ 1

-- A log whose version isn't wanted, or which has another width.
pub record IsOldLog (oldest : ℕ) (wanted : Option ℕ) (bytes : List ℕ) (version width : ℕ) : Type 0 where
  pub is_log : IsNotLog bytes → ⊥
  pub version_is : version ≡ slice_index bytes 8
  pub width_is : width ≡ slice_index bytes 9
  pub other : IsOtherFor oldest wanted version width

-- The predicate holds for the width that is named. If none is named, it holds for the width that the bytes have.
abbrev pub OfWidth : Option ℕ → List ℕ → (ℕ → Type 0) → Type 0
OfWidth (Some w) bytes P = P w
OfWidth None bytes P = (w : ℕ) × HasWidth w bytes × P w

-- The fault is in the bytes, for a caller that wants versions from `oldest` on, this width or either, and at most
-- `most` cells. The bytes say nothing about a failure of the drive or of memory.
abbrev pub IsFault : ℕ → Option ℕ → ℕ → List ℕ → OpenFault → Type 0
IsFault oldest wanted most bytes NotLog = IsNotLog bytes
IsFault oldest wanted most bytes (OldLog version width) = IsOldLog oldest wanted bytes version width
IsFault oldest wanted most bytes (Damaged number why) = OfWidth wanted bytes (λ w. IsDamaged oldest w most bytes number why)
IsFault oldest wanted most bytes (TooLong limit) = OfWidth wanted bytes (λ w. (limit ≡ most) × IsTooLong oldest w most bytes)
IsFault oldest wanted most bytes Disk = ⊤
IsFault oldest wanted most bytes Memory = ⊤

-- A fault that the bytes show.
abbrev pub IsInBytes : OpenFault → Type 0
IsInBytes NotLog = ⊤
IsInBytes (OldLog version width) = ⊤
IsInBytes (Damaged number why) = ⊤
IsInBytes (TooLong limit) = ⊤
IsInBytes Disk = ⊥
IsInBytes Memory = ⊥

-- A fault that is found before the first cell.
abbrev pub IsOfHead : OpenFault → Type 0
IsOfHead NotLog = ⊤
IsOfHead (OldLog version width) = ⊤
IsOfHead (Damaged number why) = ⊥
IsOfHead (TooLong limit) = ⊥
IsOfHead Disk = ⊤
IsOfHead Memory = ⊤

-- If the drive's bytes are known, they have this fault.
abbrev pub ShowsFault : ℕ → Option ℕ → ℕ → Drive → OpenFault → Type 0
ShowsFault oldest wanted most drive e = (bytes : List ℕ) → drive.bytes ≡ Some bytes → IsFault oldest wanted most bytes e

-- If the drive's bytes are known, they have no fault.
abbrev pub HasNoFault : ℕ → Option ℕ → ℕ → Drive → Type 0
HasNoFault oldest wanted most drive = (bytes : List ℕ) (fault : OpenFault) → drive.bytes ≡ Some bytes → IsInBytes fault → IsFault oldest wanted most bytes fault → ⊥

-- Why a wanted log isn't read. If the bytes are known, this is their first fault. `MayTell` holds in any case. A fault
-- in the bytes is returned, and bytes that recover to few enough cells give no fault, unless memory ran out or the
-- drive failed.
pub record RefusesRead (oldest : ℕ) (wanted : Option ℕ) (most : ℕ) (old new : Drive) (e : OpenFault) : Type 0 where
  pub shows : ShowsFault oldest wanted most old e
  pub may : MayTell oldest wanted most e
  pub exact : (bytes : List ℕ) (fault : OpenFault) → old.bytes ≡ Some bytes → IsInBytes fault → IsFault oldest wanted most bytes fault → (e ≡ fault) ⊎ IsFree old new e
  pub whole : (w : ℕ) (bytes : List ℕ) (cells : List Cell) → IsWidthFor wanted w → IsWidth w → old.bytes ≡ Some bytes → Recovers w cells bytes
      → IsWanted oldest (slice_index bytes 8) → length cells ≤ most → IsFree old new e
  pub rose : e ≡ Disk → Rose old.faults new.faults
