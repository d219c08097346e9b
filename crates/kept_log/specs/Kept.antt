-- What a log's file has kept since it was opened.
use Rattle.std.specs.Prelude.{◌≡◌, ℕ, ◌+◌, ◌≤◌, List, [], ◌++◌, length, Option, Some, None, is_some}
use Rattle.cell_format.specs.declared.cell.Cell.{Cell}
use Rattle.plain_list.specs.declared.entries.Entry.{Entry}
use Rattle.plain_list.specs.State.{State, at_rest, state_after}
use Rattle.disk_trait.specs.Drive.{Drive, SameFile}
use Rattle.disk_trait.specs.Moments.{LeavesNow, LeavesSince}
use Rattle.split_log.specs.LogText.{IsLog}
use Rattle.log_state.specs.Recovers.{Recovers, state_of}
use Rattle.log_state.specs.Changes.{cells_of}
use Rattle.log_state.specs.Keeps.{KeepsHistory}
use Rattle.recovery.specs.Found.{IsNewest}
use Rattle.recovery.specs.Calls.{AllWentWell}
use Rattle.recovery.specs.Opening.{KeepsCells, KeepsNewest}
use Rattle.recovery.specs.declared.seen.Seen.{Seen}
use Rattle.kept_log.specs.KeptView.{KeptView}

-- The drive's bytes are known and recover to these cells. So does every image that a crash may leave.
pub record StartsWith (w : ℕ) (first : List Cell) (drive : Drive) : Type 0 where
  pub bytes : List ℕ
  pub told : drive.bytes ≡ Some bytes
  pub recovers : Recovers w first bytes
  pub images : LeavesNow drive (Recovers w first)

-- The bytes recover to cells that lead to this state, once open splits are given up.
pub record RecoversTo (w : ℕ) (s : State) (bytes : List ℕ) : Type 0 where
  pub cells : List Cell
  pub recovers : Recovers w cells bytes
  pub state : at_rest (state_of w cells) ≡ s

-- The state in which an empty history begins after this one. Splits that are still open are given up, and their numbers
-- stay used.
abbrev pub renewed_state : ℕ → State → List Entry → State
renewed_state w s h = at_rest (state_after w s h)

-- The first cells lead to this state, once open splits are given up, and the history is kept after them. If each crash
-- left the newest version at the start, it has left the newest version since.
pub record KeepsSince (w : ℕ) (first : List Cell) (s : State) (h : List Entry) (start now : Drive) (failed : Option ℕ) : Type 0 where
  pub opening : at_rest (state_of w first) ≡ s
  pub later : start.clock ≤ now.clock
  pub history : KeepsHistory w first s.world h start.clock now failed
  pub newest : LeavesNow start IsNewest → LeavesSince now start.clock IsNewest

-- The log has kept the history since it was opened in a state. It has the history's cells after its first ones. If the
-- first cells are known, each crash since left them and then a prefix of the history's cells. Until an append fails,
-- the file is the text of them all and a crash leaves it, whatever was pending at the opening.
pub record Keeps {D : Type 0} (drive : D → Drive) (w : ℕ) (s : State) (h : List Entry) (log : KeptView D) : Type 0 where
  pub count : log.cells ≡ log.first + length (cells_of s.world h)
  pub since : (first : List Cell) → StartsWith w first (drive log.start) → KeepsSince w first s h (drive log.start) (drive log.disk) log.failed
  pub text : (first : List Cell) (bytes : List ℕ) → (drive log.start).bytes ≡ Some bytes → Recovers w first bytes → log.failed ≡ None
      → IsLog w (first ++ cells_of s.world h) (drive log.disk)

-- The state that was found in a log, with no split open.
abbrev pub found_state : Seen → State
found_state seen = record { world = seen.world; leaves = seen.leaves; splits = []; begun = seen.begun }

-- A log was opened in a state. If the drive's bytes were known, their cells lead to that state, and the file is the
-- text of these cells alone. No device call failed, the file is the one that was attached, and its bytes are known if
-- they were before. Each crash during the opening left the cells, and the newest version if it did before.
pub record IsOpened (w : ℕ) (s : State) (start now : Drive) : Type 0 where
  pub state : (bytes : List ℕ) (first : List Cell) → start.bytes ≡ Some bytes → Recovers w first bytes → at_rest (state_of w first) ≡ s
  pub log : (bytes : List ℕ) → start.bytes ≡ Some bytes → (cells : List Cell) × Recovers w cells bytes × IsLog w cells now
  pub any_moment : KeepsCells w start now
  pub newest : KeepsNewest start now
  pub calls : AllWentWell start now
  pub same : now.faults ≡ start.faults
  pub file : SameFile start now
  pub told : is_some now.bytes ≡ is_some start.bytes
