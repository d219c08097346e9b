-- How far a log was read.
use Rattle.std.specs.Prelude.{◌≡◌, ◌≢◌, ℕ, ◌+◌, ◌*◌, ◌-◌, ◌<◌, ◌≤◌, min, List, [], ◌∷◌, ◌++◌, length, take, drop, slice_index, Option, Some, None, Result, Ok, Err, MatchResult, IsErrOf, ⊤}
use Rattle.cell_format.specs.Spelling.{IsVersion}
use Rattle.causes.specs.Causes.{Rose}
use Rattle.cell_format.specs.declared.cell.Cell.{Cell}
use Rattle.disk_trait.specs.Drive.{Drive, SameFile, Stays}
use Rattle.split_log.specs.LogText.{HoldsCells}
use Rattle.recovery.specs.declared.seen.OpenFault.{OpenFault}
use Rattle.recovery.specs.declared.seen.OpenFault.TheVariants.{NotLog, OldLog, Damaged, Disk, Memory, TooLong}
use Rattle.recovery.specs.declared.walked.Walked.{Walked}
use Rattle.log_state.specs.Recovers.{IsLegalCells, state_of}
use Rattle.recovery.specs.declared.seen.Seen.{Seen}
use Rattle.recovery.specs.Faults.{BeginsWith, IsFault, HasNoFault}
use Rattle.recovery.specs.Found.{Shows, IsWanted, IsFound}
use Rattle.recovery.specs.Pieces.{PassesCell, FailsAt}
use Rattle.recovery.specs.Replay.{ReplayView}
use Rattle.recovery.specs.Room.{HasRoomAfter}
use Rattle.recovery.specs.Walked.{IsNextWalked}
use Rattle.zorder.specs.Width.{IsWidth}
use Rattle.recovery.specs.Widths.{IsWidthOf}
use Rattle.recovery.specs.Wanted.{IsWidthFor}

-- The state after the cells so far, their number, the largest number that is accepted, the length of the file, and the
-- rest of the last piece from the commit byte of the next cell on.
pub record ReadingView : Type 0 where
  pub replay : ReplayView
  pub number : ℕ
  pub most : ℕ
  pub len : ℕ
  pub rest : List ℕ

-- The rest of the piece is within the buffer and within the file. The file has room for a commit byte after the cells.
pub record IsReading (at filled number most len : ℕ) (buffer : List ℕ) : Type 0 where
  pub long : length buffer ≡ 65537
  pub within : filled ≤ 65537
  pub from : at ≤ filled
  pub few : number ≤ most
  pub room : 17 + 32 * number ≤ len
  pub fits : 16 + 32 * number + filled ≤ len + at

-- These cells were read, and they are legal. The file has room for a commit byte after them. If the bytes are known,
-- they begin with these cells, and the rest of the piece follows.
pub record HasRead (cells : List Cell) (drive : Drive) (r : ReadingView) : Type 0 where
  pub legal : IsLegalCells r.replay.width cells
  pub state : r.replay.state ≡ state_of r.replay.width cells
  pub count : length cells ≡ r.number
  pub room : 17 + 32 * length cells ≤ r.len
  pub begins : (xs : List ℕ) → drive.bytes ≡ Some xs
      → (length xs ≡ r.len) × (more : List ℕ) × BeginsWith r.replay.version r.replay.width cells (r.rest ++ more) xs

-- If the bytes are known, they have this fault, for a caller that wants the log's version.
abbrev pub FailsIn : ℕ → Drive → ReplayView → OpenFault → Type 0
FailsIn most drive replay e = (xs : List ℕ) → drive.bytes ≡ Some xs → (oldest : ℕ) → IsWanted oldest replay.version → IsFault oldest (Some replay.width) most xs e

-- A fault after `number` cells: of the next cell, of the limit, or none that the bytes show.
abbrev pub IsBehind : ℕ → ℕ → OpenFault → Type 0
IsBehind most number NotLog = ⊥
IsBehind most number (OldLog version width) = ⊥
IsBehind most number (Damaged n why) = (n ≡ number) × (number < most)
IsBehind most number (TooLong limit) = (limit ≡ most) × (number ≡ most)
IsBehind most number Disk = ⊤
IsBehind most number Memory = ⊤

-- The fault is after the cells that were read.
abbrev pub FailsBehind : Drive → ReadingView → OpenFault → Type 0
FailsBehind drive r e = (cells : List Cell) → HasRead cells drive r → FailsIn r.most drive r.replay e

-- The fault is right after these cells, or after more of them.
pub record FailsOn (drive : Drive) (r : ReadingView) (e : OpenFault) : Type 0 where
  pub fails : FailsBehind drive r e
  pub behind : (cells : List Cell) → HasRead cells drive r → (number : ℕ) × IsBehind r.most number e

-- The fault is right after these cells.
abbrev pub Stops : Drive → ReadingView → OpenFault → Type 0
Stops drive r e = IsBehind r.most r.number e × FailsBehind drive r e

-- The reading is before the first cell of a log whose version is wanted.
pub record Starts (oldest w most : ℕ) (drive : Drive) (r : ReadingView) : Type 0 where
  pub wanted : IsWanted oldest r.replay.version
  pub width : r.replay.width ≡ w
  pub most_is : r.most ≡ most
  pub long : 17 ≤ r.len
  pub read : HasRead [] drive r

-- The same for a wanted log, with its own width.
pub record StartsFor (oldest : ℕ) (wanted : Option ℕ) (most : ℕ) (drive : Drive) (r : ReadingView) : Type 0 where
  pub known : IsWidth r.replay.width
  pub fits : IsWidthFor wanted r.replay.width
  pub starts : Starts oldest r.replay.width most drive r

-- Both read the same log.
pub record SameLog (old new : ReadingView) : Type 0 where
  pub version : new.replay.version ≡ old.replay.version
  pub width : new.replay.width ≡ old.replay.width
  pub most : new.most ≡ old.most
  pub len : new.len ≡ old.len

-- The rest of the piece decides what the next cell is, or that there is none.
pub record NeedsNoPiece (r : ReadingView) : Type 0 where
  pub some : 1 ≤ length r.rest
  pub told : length r.rest < 33 → slice_index r.rest 0 ≡ 1 → r.number < r.most → ⊥

-- If the next commit byte is set and the rest is too short for a cell, the rest is all that the file has.
abbrev pub HasAllThatIsLeft : Drive → ReadingView → Type 0
HasAllThatIsLeft drive r = (xs : List ℕ) → drive.bytes ≡ Some xs → length xs ≡ r.len → length r.rest < 33 → slice_index r.rest 0 ≡ 1 → r.number < r.most
    → 16 + 32 * r.number + length r.rest ≡ r.len

-- The rest of the piece decides the next cell, as far as the file does.
pub record IsFilled (drive : Drive) (old new : ReadingView) : Type 0 where
  pub same : new ≡ record old { rest = new.rest }
  pub some : 1 ≤ length new.rest
  pub ready : HasAllThatIsLeft drive new
  pub keeps : (cells : List Cell) → HasRead cells drive old → HasRead cells drive new

-- Nothing is left of the piece.
abbrev pub IsEmptied : ReadingView → ReadingView → Type 0
IsEmptied old new = new ≡ record old { rest = [] }

-- The cell at the front was processed.
pub record PassesOn (old new : ReadingView) (walked : Walked) : Type 0 where
  pub few : old.number < old.most
  pub passes : PassesCell old.number old.replay new.replay old.rest walked
  pub same : SameLog old new
  pub number : new.number ≡ old.number + 1
  pub room : 17 + 32 * new.number ≤ new.len
  pub rest : new.rest ≡ drop 32 old.rest

-- The cell at the front was processed, or its commit byte is clear, or there is a fault. In the last two cases nothing
-- changed.
abbrev pub WalksOn : ReadingView → ReadingView → Result (Option Walked) OpenFault → Type 0
WalksOn old new (Ok (Some walked)) = PassesOn old new walked
WalksOn old new (Ok None) = (new ≡ old) × (slice_index old.rest 0 ≢ 1)
WalksOn old new (Err e) = (new ≡ old) × FailsAt old.replay.version old.replay.width old.most old.number old.replay.state old.rest e

-- A processed cell leaves less to read.
abbrev pub IsNearer : ReadingView → ReadingView → Result (Option Walked) OpenFault → Type 0
IsNearer old new (Ok (Some walked)) = (old.number < old.most) × (new.number ≡ old.number + 1)
IsNearer old new (Ok None) = ⊤
IsNearer old new (Err e) = ⊤

-- One more cell was read, or all were read before, or there is a fault.
abbrev pub TellsNext : List Cell → Drive → ReadingView → ReadingView → Result (Option Walked) OpenFault → Type 0
TellsNext cells drive old new (Ok (Some walked)) = HasRead (cells ++ walked.cell ∷ []) drive new × IsNextWalked old.replay.width cells walked
TellsNext cells drive old new (Ok None) =
    HasRead cells drive new × ((xs : List ℕ) → drive.bytes ≡ Some xs → HoldsCells old.replay.version old.replay.width cells xs)
TellsNext cells drive old new (Err e) = HasRead cells drive new × IsBehind old.most (length cells) e × FailsIn old.most drive old.replay e

pub record Advances (drive : Drive) (old new : ReadingView) (result : Result (Option Walked) OpenFault) : Type 0 where
  pub same : SameLog old new
  pub grows : HasRoomAfter old.replay.state new.replay.state
  pub fewer : IsNearer old new result
  pub tells : (cells : List Cell) → HasRead cells drive old → TellsNext cells drive old new result

-- All cells of the log were read.
pub record ReadsAll (drive : Drive) (old new : ReadingView) : Type 0 where
  pub same : SameLog old new
  pub reads : (cells : List Cell) → HasRead cells drive old → (all : List Cell) × HasRead all drive new
      × ((xs : List ℕ) → drive.bytes ≡ Some xs → HoldsCells old.replay.version old.replay.width all xs)

-- How far the reading of all cells has come since it began.
pub record IsOnWay (before now : Drive) (first r : ReadingView) : Type 0 where
  pub same : SameLog first r
  pub stays : Stays before now
  pub calm : now.faults ≡ before.faults
  pub file : SameFile before now
  pub reads : (cells : List Cell) → HasRead cells before first → (all : List Cell) × HasRead all before r

-- What is returned of the cells that were read.
pub record IsSeenOf (r : ReadingView) (seen : Seen) : Type 0 where
  pub shows : Shows r.replay.state r.number seen
  pub version : seen.version ≡ r.replay.version
  pub known : IsVersion r.replay.version
  pub few : r.number ≤ r.most
  pub room : 17 + 32 * r.number ≤ r.len

-- A call that only reads. The bytes and the images stay the same, and the fault count doesn't fall. The result is
-- `Disk` only if the fault count rose, and every other result leaves it unchanged.
pub record OnlyReads {T : Type 0} (old new : Drive) (result : Result T OpenFault) : Type 0 where
  pub stays : Stays old new
  pub later : old.faults ≤ new.faults
  pub same : MatchResult result (λ _. new.faults ≡ old.faults) (λ e. e ≢ Disk → new.faults ≡ old.faults)
  pub failed : IsErrOf result Disk → Rose old.faults new.faults
  pub file : SameFile old new

-- The bytes from `at` on were read into the first `room` bytes of the buffer.
abbrev pub ReadsPiece : Drive → ℕ → ℕ → List ℕ → ℕ → Type 0
ReadsPiece drive at room after got = (got ≤ room) × ((xs : List ℕ) → drive.bytes ≡ Some xs → (got ≡ min room (length xs - at)) × (take got after ≡ take got (drop at xs)))

-- What was found in a file of `len` bytes. The file has room for the cells and a commit byte.
pub record IsFoundIn (oldest w most : ℕ) (drive : Drive) (seen : Seen) (len : ℕ) : Type 0 where
  pub found : IsFound oldest w most drive seen
  pub room : 17 + 32 * seen.cells ≤ len
  pub whole : (bytes : List ℕ) → drive.bytes ≡ Some bytes → length bytes ≡ len

-- What was found in a wanted log, with its own width. The bytes have no fault.
pub record FindsWanted (oldest : ℕ) (wanted : Option ℕ) (most : ℕ) (drive : Drive) (w : ℕ) (seen : Seen) : Type 0 where
  pub width : IsWidthOf drive w
  pub fits : IsWidthFor wanted w
  pub found : IsFound oldest w most drive seen
  pub sound : HasNoFault oldest wanted most drive

-- The same, in a file of `len` bytes.
pub record IsFoundFor (oldest : ℕ) (wanted : Option ℕ) (most : ℕ) (drive : Drive) (w : ℕ) (seen : Seen) (len : ℕ) : Type 0 where
  pub log : FindsWanted oldest wanted most drive w seen
  pub within : IsFoundIn oldest w most drive seen len
