-- The cell at the front of a piece of a log. The piece begins with the commit byte of that cell.
use Rattle.std.specs.Prelude.{◌≡◌, ◌≢◌, ℕ, ◌<◌, ◌≤◌, true, List, length, take, slice_index, Option, Some, None, Result, Ok, Err, ⊤}
use Rattle.zorder.specs.declared.points.Point.{Point}
use Rattle.cell_format.specs.declared.cell.Cell.{Cell}
use Rattle.cell_format.specs.declared.cell.Cell.TheVariants as cell
use Rattle.cell_format.specs.declared.cell.Cause.{Cause}
use Rattle.cell_format.specs.declared.cell.Cause.TheVariants as cause
use Rattle.cell_format.specs.declared.cell.CellFault.{CellFault}
use Rattle.cell_format.specs.declared.cell.CellFault.TheVariants as fault
use Rattle.cell_format.specs.Spelling.{IsCell, spelling}
use Rattle.plain_list.specs.State.{State, step}
use Rattle.recovery.specs.declared.seen.OpenFault.{OpenFault}
use Rattle.recovery.specs.declared.seen.OpenFault.TheVariants.{NotLog, OldLog, Damaged, Disk, Memory, TooLong}
use Rattle.recovery.specs.declared.walked.Walked.{Walked}
use Rattle.log_state.specs.Recovers.{is_possible_cell, entry_of}
use Rattle.recovery.specs.Faults.{IsWrong}
use Rattle.recovery.specs.Replay.{ReplayView}
use Rattle.recovery.specs.Room.{HasRoomAfter}
use Rattle.recovery.specs.Walked.{object_of, place_in}

-- The position of a cell's object after the cell.
abbrev pub place_after : Cell → Option Point
place_after (cell.Put id at moment) = Some at
place_after (cell.Move id at moment) = Some at
place_after (cell.Remove id) = None
place_after (cell.Begin number name) = None
place_after (cell.Install number) = None
place_after (cell.Abandon number) = None

-- Why a cell without a spelling is damaged.
abbrev pub cause_of : CellFault → Cause
cause_of fault.Kind = cause.Kind
cause_of fault.Reserved = cause.Reserved
cause_of fault.BadName = cause.BadName

-- The replay processed the cell at the front, which was possible, and `walked` is what it returned.
pub record PassesCell (number : ℕ) (old new : ReplayView) (piece : List ℕ) (walked : Walked) : Type 0 where
  pub at : walked.at ≡ number
  pub long : 33 ≤ length piece
  pub set : slice_index piece 0 ≡ 1
  pub fits : IsCell old.version walked.cell
  pub spelled : take 32 piece ≡ spelling walked.cell
  pub possible : is_possible_cell old.width old.state walked.cell ≡ true
  pub version : new.version ≡ old.version
  pub width : new.width ≡ old.width
  pub state : new.state ≡ step old.width old.state (entry_of walked.cell)
  pub before : walked.before ≡ place_in old.state.world (object_of walked.cell)
  pub after : walked.after ≡ place_after walked.cell
  pub grows : HasRoomAfter old.state new.state

-- The cell of this number, at the front of the piece, has this fault.
abbrev pub FailsAt : ℕ → ℕ → ℕ → ℕ → State → List ℕ → OpenFault → Type 0
FailsAt v w most number s piece (Damaged n why) = (n ≡ number) × (number < most) × (slice_index piece 0 ≡ 1) × IsWrong v w s piece why
FailsAt v w most number s piece (TooLong m) = (m ≡ most) × (number ≡ most) × (slice_index piece 0 ≡ 1)
FailsAt v w most number s piece Memory = ⊤
FailsAt v w most number s piece NotLog = ⊥
FailsAt v w most number s piece (OldLog version width) = ⊥
FailsAt v w most number s piece Disk = ⊥

-- A cell was processed, or the commit byte at the front is clear, or there is a fault. In the last two cases nothing
-- changed.
abbrev pub WalksFront : ℕ → ℕ → ReplayView → ReplayView → List ℕ → Result (Option Walked) OpenFault → Type 0
WalksFront most number old new piece (Ok (Some walked)) = (number < most) × PassesCell number old new piece walked
WalksFront most number old new piece (Ok None) = (new ≡ old) × (slice_index piece 0 ≢ 1)
WalksFront most number old new piece (Err e) = (new ≡ old) × FailsAt old.version old.width most number old.state piece e
