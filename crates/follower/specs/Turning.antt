-- What a turn of a follower does, and why it is refused.
use Rattle.std.specs.Prelude.{◌≡◌, ◌⊎◌, ℕ, ◌+◌, ◌≤◌, ◌<◌, false, List, length, take, Some, is_some, ⊤}
use Rattle.causes.specs.Causes.{Rose}
use Rattle.cell_format.specs.declared.cell.Cell.{Cell}
use Rattle.cell_format.specs.Spelling.{newest}
use Rattle.disk_trait.specs.Drive.{Drive, HasNoMore, MadeWell, StopsAfter, SameFile}
use Rattle.disk_trait.specs.Moments.{LeavesNow}
use Rattle.split_log.specs.LogText.{IsLog}
use Rattle.split_log.specs.LogView.{most_cells}
use Rattle.recovery.specs.Wanted.{MayTell}
use Rattle.recovery.specs.declared.seen.OpenFault.{OpenFault}
use Rattle.recovery.specs.declared.seen.OpenFault.TheVariants as open_fault
use Rattle.follower.specs.declared.faults.FollowFault.{FollowFault}
use Rattle.follower.specs.declared.faults.FollowFault.TheVariants.{Strange, Log, Append, Disk, Memory}
use Rattle.follower.specs.declared.turns.Turn.{Turn}
use Rattle.follower.specs.declared.turns.Turn.TheVariants.{Send, Arrive, Restart}
use Rattle.follower.specs.Follow.{Following, after_turn, cell_of}
use Rattle.follower.specs.Holding.{FollowerView, HoldsFirst, RecoversFirst, LeavesFirst, IsUntold}
use Rattle.follower.specs.Faults.{is_drives, most_left}
use Rattle.follower.specs.Reopening.{CallsUnopened, IsLesserOf}

-- A packet that carries the next of `count` cells.
abbrev pub BringsNext : ℕ → Following → Turn → Type 0
BringsNext count s (Arrive packet) = (cell_of packet s ≡ s.held) × (s.held < count)
BringsNext count s _ = ⊥

-- The writes, cuts and syncs of a turn. Four add the next cell. A restart syncs, and if the bytes are unknown, a cut
-- and a sync may follow. Every other turn makes none.
abbrev pub MakesCalls : ℕ → Following → Turn → Drive → Drive → Type 0
MakesCalls count s Restart old new = MadeWell 1 old new ⊎ (IsUntold old × MadeWell 3 old new)
MakesCalls count s turn old new = (BringsNext count s turn → MadeWell 4 old new) × ((BringsNext count s turn → ⊥) → HasNoMore old.calls new.calls)

-- A turn was made. This is the state after it, and the follower still holds the first of the cells. No device call
-- failed.
pub record Turns {D : Type 0} (drive : D → Drive) (cells : List Cell) (turn : Turn) (old new : FollowerView D) : Type 0 where
  pub state : new.state ≡ after_turn (length cells) old.state turn
  pub width : new.width ≡ old.width
  pub holds : HoldsFirst drive cells new
  pub told : is_some (drive new.disk).bytes ≡ is_some (drive old.disk).bytes
  pub calm : (drive new.disk).faults ≡ (drive old.disk).faults
  pub calls : MakesCalls (length cells) old.state turn (drive old.disk) (drive new.disk)
  pub file : SameFile (drive old.disk) (drive new.disk)

-- A turn that keeps what was sent.
abbrev pub TakesRoom : Turn → Type 0
TakesRoom (Send cell) = ⊤
TakesRoom (Arrive packet) = ⊤
TakesRoom _ = ⊥

-- Why a turn wasn't made. If the bytes are known, a restart fails only because of the drive or of memory. A failed
-- append is that of the next cell, and a crash leaves the cell or doesn't. If memory for what is sent ran out, nothing
-- was done.
abbrev pub IsTurnCause : {D : Type 0} → (D → Drive) → List Cell → Turn → FollowerView D → D → FollowFault → Type 0
IsTurnCause drive cells turn old disk (Strange cell) = (turn ≡ Restart) × IsUntold (drive old.disk) × IsLesserOf old.state.held cell
IsTurnCause drive cells turn old disk (Log open_fault.Disk) = (turn ≡ Restart) × Rose (drive old.disk).faults (drive disk).faults
IsTurnCause drive cells turn old disk (Log open_fault.Memory) = turn ≡ Restart
IsTurnCause drive cells turn old disk (Log fault) = (turn ≡ Restart) × IsUntold (drive old.disk)
IsTurnCause drive cells turn old disk (Append cell) =
    BringsNext (length cells) old.state turn
    × (cell ≡ old.state.held)
    × Rose (drive old.disk).faults (drive disk).faults
    × ((bytes : List ℕ) → (drive old.disk).bytes ≡ Some bytes → LeavesNow (drive disk) (RecoversFirst old.width cells old.state.held (old.state.held + 1)))
IsTurnCause drive cells turn old disk Disk = ⊥
IsTurnCause drive cells turn old disk Memory = TakesRoom turn × (disk ≡ old.disk)

-- The calls of a turn that wasn't made: some of those of an append, and then one that failed; those of an opening that
-- was refused; or none.
abbrev pub CallsOfRefused : FollowFault → Drive → Drive → Type 0
CallsOfRefused (Append cell) old new = (went_well : ℕ) × StopsAfter 3 went_well old new
CallsOfRefused Memory old new = HasNoMore old.calls new.calls
CallsOfRefused fault old new = CallsUnopened fault old new

-- A turn was refused, and this is why. The fault count is unchanged, unless the drive failed. The follower's cells are
-- unchanged too, if the bytes are known. No call follows one that failed.
pub record RefusesTurn {D : Type 0} (drive : D → Drive) (cells : List Cell) (turn : Turn) (old : FollowerView D) (disk : D) (fault : FollowFault) : Type 0 where
  pub cause : IsTurnCause drive cells turn old disk fault
  pub may : (why : OpenFault) → fault ≡ Log why → MayTell newest (Some old.width) most_cells why
  pub told : is_some (drive disk).bytes ≡ is_some (drive old.disk).bytes
  pub calm : is_drives fault ≡ false → (drive disk).faults ≡ (drive old.disk).faults
  pub later : (drive old.disk).faults ≤ (drive disk).faults
  pub calls : CallsOfRefused fault (drive old.disk) (drive disk)
  pub log : is_drives fault ≡ false → (bytes : List ℕ) → (drive old.disk).bytes ≡ Some bytes → IsLog old.width (take old.state.held cells) (drive disk)
  pub file : SameFile (drive old.disk) (drive disk)

-- The turn was made. At each moment of it a crash left as many cells as were held before it or after it.
pub record MakesTurn {D : Type 0} (drive : D → Drive) (cells : List Cell) (turn : Turn) (old new : FollowerView D) : Type 0 where
  pub turns : Turns drive cells turn old new
  pub any_moment : LeavesFirst old.width cells old.state.held new.state.held (drive old.disk) (drive new.disk)

pub record FailsTurn {D : Type 0} (drive : D → Drive) (cells : List Cell) (turn : Turn) (old : FollowerView D) (disk : D) (fault : FollowFault) : Type 0 where
  pub refused : RefusesTurn drive cells turn old disk fault
  pub any_moment : LeavesFirst old.width cells old.state.held (most_left fault old.state.held) (drive old.disk) (drive disk)
