-- What `follow` does to the second file. The command opens it over the leader's cells, and plays the turns.
use Rattle.std.specs.Prelude.{◌≡◌, ◌≢◌, ◌⊎◌, ◌+◌, ◌*◌, ◌<◌, ◌≤◌, nat_lt, ◌==◌, ◌&&◌, if◌then◌else◌, ℕ, Bool, List, [], ◌∷◌, ◌++◌, length, replicate, take, drop, Some, None, true, false, ⊤}
use Rattle.causes.specs.Causes.{Rose}
use Rattle.disk_trait.specs.Drive.{Drive, Made, MadeWell}
use Rattle.disk_trait.specs.Moments.{LeavesNow, LeavesOnly, LeavesSince}
use Rattle.cell_format.specs.declared.cell.Cell.{Cell}
use Rattle.cell_format.specs.Spelling.{newest}
use Rattle.split_log.specs.LogText.{IsLog}
use Rattle.log_state.specs.Recovers.{Recovers}
use Rattle.recovery.specs.Calls.{StopsAtFault}
use Rattle.recovery.specs.Faults.{IsFault, IsInBytes}
use Rattle.recovery.specs.Making.{IsSmall}
use Rattle.recovery.specs.Wanted.{IsOtherFor}
use Rattle.recovery.specs.Opening.{IsUntouched, KeepsNewest}
use Rattle.recovery.specs.declared.seen.OpenFault.{OpenFault}
use Rattle.recovery.specs.declared.seen.OpenFault.TheVariants as open_fault
use Rattle.follower.specs.declared.faults.FollowFault.{FollowFault}
use Rattle.follower.specs.declared.faults.FollowFault.TheVariants as follow_fault
use Rattle.follower.specs.declared.turns.Turn.{Turn}
use Rattle.follower.specs.declared.turns.Turn.TheVariants.{Send, Arrive, Ack, Restart}
use Rattle.follower.specs.Follow.{Following, opened_with, after_turn, after_turns, cell_of, reports, IsSound}
use Rattle.follower.specs.Holding.{RecoversFirst, IsUntold}
use Rattle.follower.specs.Opening.{IsStrange, IsTaken, KeepsTarget, most_held}
use Rattle.follower.specs.Turning.{BringsNext}
use Rattle.io_edge.specs.Streams.{Output}
use Rattle.run_ends.specs.declared.refusals.Refusal.{Refusal}
use Rattle.run_ends.specs.declared.refusals.Refusal.TheVariants as refusal
use Rattle.run_ends.specs.LogFaults.{log_refusal}
use Rattle.run_ends.specs.Status.{status_of}
use Rattle.run_ends.specs.Taking.{Refuses}
use Rattle.run_ends.specs.Ending.{EndsWriting, EndsRefused}
use Rattle.run_ends.specs.Attaching.{AttachesOnce}
use Rattle.follow_run.specs.Lines.{reports_text}

-- The refusal for a fault of a follower.
abbrev pub follow_refusal : FollowFault → Refusal
follow_refusal (follow_fault.Strange cell) = refusal.Strange cell
follow_refusal (follow_fault.Log fault) = log_refusal fault
follow_refusal (follow_fault.Append cell) = refusal.Disk (Some cell)
follow_refusal follow_fault.Disk = refusal.Disk None
follow_refusal follow_fault.Memory = refusal.Memory

-- If the bytes are known, they are more than 17, and have this fault for an opening of a log.
abbrev pub ShowsLogFault : ℕ → Drive → OpenFault → Type 0
ShowsLogFault w old fault = (bytes : List ℕ) → old.bytes ≡ Some bytes → (17 < length bytes) × IsFault newest (Some w) most_held bytes fault

-- Why the second file isn't opened: the first of its cells that isn't the leader's, the first fault in its bytes, a
-- risen fault count of the drive, or a lack of memory. Whether its bytes are known or not, the reason never names the
-- version and width of a log that is opened, nor a cell that can't be named.
abbrev pub IsReplicaCause : ℕ → List Cell → Drive → Drive → Refusal → Type 0
IsReplicaCause w cells old new (refusal.Strange cell) =
    (cell ≤ length cells) × ((bytes : List ℕ) → old.bytes ≡ Some bytes → IsStrange w cells bytes cell)
IsReplicaCause w cells old new refusal.NotLog = ShowsLogFault w old open_fault.NotLog
IsReplicaCause w cells old new (refusal.OldLog version width) =
    IsOtherFor newest (Some w) version width × ShowsLogFault w old (open_fault.OldLog version width)
IsReplicaCause w cells old new (refusal.Damaged cell cause) = (cell < most_held) × ShowsLogFault w old (open_fault.Damaged cell cause)
IsReplicaCause w cells old new refusal.LongLog = ShowsLogFault w old (open_fault.TooLong most_held)
IsReplicaCause w cells old new (refusal.Disk None) = Rose old.faults new.faults
IsReplicaCause w cells old new refusal.Memory = ⊤
IsReplicaCause w cells old new _ = ⊥

-- The second file isn't opened. The file, if its bytes are known, and the drive's fault count are unchanged, unless the
-- drive failed.
pub record IsUnopened (w : ℕ) (cells : List Cell) (old new : Drive) (status : ℕ) (before after : Output) : Type 0 where
  pub refused : EndsRefused (IsReplicaCause w cells old new) status before after
  pub untouched : status ≢ 7 → (bytes : List ℕ) → old.bytes ≡ Some bytes → IsUntouched old new
  -- What a crash left of the file before, it leaves at each moment of the opening. The opening changes the file only if
  -- a follower accepts it.
  pub keeps : KeepsTarget w cells old new

-- The plain machine after the first `made` of these turns. `first` cells were held at the start, and the leader has
-- `count` cells.
abbrev pub machine_at : ℕ → ℕ → List Turn → ℕ → Following
machine_at count first turns made = after_turns count (opened_with first) (take made turns)

-- How many writes, cuts and syncs a turn makes, if the bytes are known: four to add the next cell, a sync to open the
-- log again, otherwise none.
abbrev pub calls_of : ℕ → Following → Turn → ℕ
calls_of count s (Send cell) = 0
calls_of count s (Arrive packet) = if (cell_of packet s == s.held) && nat_lt s.held count then 4 else 0
calls_of count s (Ack number) = 0
calls_of count s Restart = 1

abbrev pub calls_of_turns : ℕ → Following → List Turn → ℕ
calls_of_turns count s [] = 0
calls_of_turns count s (t ∷ turns) = calls_of count s t + calls_of_turns count (after_turn count s t) turns

-- How many calls the first `made` turns make, if `first` cells were held at the start.
abbrev pub calls_at : ℕ → ℕ → List Turn → ℕ → ℕ
calls_at count first turns made = calls_of_turns count (opened_with first) (take made turns)

-- How many calls open the second file, if it has these bytes and `first` of the leader's cells. A write and a sync
-- create a log in a small file. A sync opens a longer one. A cut and a sync follow if bytes come after its cells.
abbrev pub calls_to_open : List ℕ → ℕ → ℕ
calls_to_open bytes first = if nat_lt 17 (length bytes) then (if nat_lt (17 + 32 * first) (length bytes) then 3 else 1) else 2

-- The results of the calls of the turn that wasn't made, if the bytes are known. In an append up to three went well,
-- and the next one failed. In a restart up to two went well and the next one failed, or the sync went well and then a
-- read failed or memory ran out. Or there was no call.
abbrev pub AreLast : Refusal → List Bool → Type 0
AreLast (refusal.Disk (Some cell)) answers = (n : ℕ) × (n ≤ 3) × (answers ≡ replicate n true ++ false ∷ [])
AreLast (refusal.Disk None) answers = (answers ≡ true ∷ []) ⊎ ((n : ℕ) × (n ≤ 2) × (answers ≡ replicate n true ++ false ∷ []))
AreLast refusal.Memory answers = (answers ≡ []) ⊎ (answers ≡ true ∷ [])
AreLast _ answers = ⊥

-- The next turn opens the log again, and the drive's bytes are unknown.
abbrev pub OpensUntold : List Turn → Drive → Type 0
OpensUntold rest old = ((later : List Turn) × (rest ≡ Restart ∷ later)) × IsUntold old

-- Why the turns stop before these, in a state of the machine. The append of the next cell failed, the drive failed
-- while the log was opened again, or memory ran out. If the drive's bytes are unknown, a log that is opened again may
-- also turn out to be another one, of this width.
abbrev pub IsStop : ℕ → ℕ → Following → List Turn → Drive → Drive → Refusal → Type 0
IsStop w count s rest old new (refusal.Disk (Some cell)) =
    ((turn : Turn) × (later : List Turn) × (rest ≡ turn ∷ later) × BringsNext count s turn) × (cell ≡ s.held) × Rose old.faults new.faults
IsStop w count s rest old new (refusal.Disk None) = ((later : List Turn) × (rest ≡ Restart ∷ later)) × Rose old.faults new.faults
IsStop w count s rest old new refusal.Memory = ⊤
IsStop w count s rest old new (refusal.Strange cell) = OpensUntold rest old × (cell ≤ s.held)
IsStop w count s rest old new refusal.NotLog = OpensUntold rest old
IsStop w count s rest old new (refusal.OldLog version width) = OpensUntold rest old × IsOtherFor newest (Some w) version width
IsStop w count s rest old new (refusal.Damaged cell cause) = OpensUntold rest old × (cell < most_held)
IsStop w count s rest old new refusal.LongLog = OpensUntold rest old
IsStop w count s rest old new _ = ⊥

-- The most cells that a crash leaves, if `held` cells are held: one more after an append that failed.
abbrev pub most_behind : Refusal → ℕ → ℕ
most_behind (refusal.Disk (Some cell)) held = held + 1
most_behind _ held = held

-- All turns were made, and their reports were written. The file is the text of the cells that are held, and a crash
-- leaves exactly these. After the `opened` calls that opened the file, only those of the turns were made.
pub record TellsReports (w : ℕ) (cells : List Cell) (first : ℕ) (turns : List Turn) (made opened : ℕ) (old new : Drive) (status : ℕ) (before after : Output) : Type 0 where
  pub all : made ≡ length turns
  pub wrote : EndsWriting (reports_text (reports (length cells) (opened_with first) turns)) status before after
  pub exactly : (bytes : List ℕ) → old.bytes ≡ Some bytes
      → LeavesNow new (Recovers w (take (machine_at (length cells) first turns made).held cells))
  pub log : (bytes : List ℕ) → old.bytes ≡ Some bytes → IsLog w (take (machine_at (length cells) first turns made).held cells) new
  pub calls : (bytes : List ℕ) → old.bytes ≡ Some bytes → MadeWell (opened + calls_at (length cells) first turns made) old new

-- The turns stopped after those that were made, for this reason. A crash leaves exactly the cells that are held, or one
-- more after a failed append. Unless the drive failed, the file is their text. After the `opened` calls that opened the
-- file come those of the turns that were made, and those of the turn that wasn't. No call follows one that failed.
pub record StopsTurns (w : ℕ) (cells : List Cell) (first : ℕ) (turns : List Turn) (made opened : ℕ) (old new : Drive) (why : Refusal) : Type 0 where
  pub cause : IsStop w (length cells) (machine_at (length cells) first turns made) (drop made turns) old new why
  pub leaves :
      (bytes : List ℕ) → old.bytes ≡ Some bytes
      → let held = (machine_at (length cells) first turns made).held in LeavesNow new (RecoversFirst w cells held (most_behind why held))
  pub log :
      (bytes : List ℕ) → old.bytes ≡ Some bytes → status_of why ≢ 7
      → IsLog w (take (machine_at (length cells) first turns made).held cells) new
  pub calls :
      (bytes : List ℕ) → old.bytes ≡ Some bytes
      → (last : List Bool) × AreLast why last × Made (replicate (opened + calls_at (length cells) first turns made) true ++ last) old new

-- The reports of all turns were written, or the turns stopped and the refusal was written.
abbrev pub EndsTurns : ℕ → List Cell → ℕ → List Turn → ℕ → ℕ → Drive → Drive → ℕ → Output → Output → Type 0
EndsTurns w cells first turns made opened old new status before after =
    TellsReports w cells first turns made opened old new status before after
    ⊎ EndsRefused (StopsTurns w cells first turns made opened old new) status before after

-- A moment since which a crash leaves the first of the cells, at least `least` of them.
pub record LeavesFrom (w : ℕ) (cells : List Cell) (least : ℕ) (new : Drive) : Type 0 where
  pub moment : ℕ
  pub ended : moment ≤ new.clock
  pub since : LeavesSince new moment (RecoversFirst w cells least (length cells))

-- What a crash leaves of the second file, if its bytes are known. At each moment it is what a crash left before the
-- opening, which is small bytes or the cells that the file had. Or it is the first of the leader's cells, in the newest
-- version. After the opening and some turns, these are at least as many as were held then. The leader knows of no more
-- than that.
pub record KeepsFirst (w : ℕ) (cells : List Cell) (first : ℕ) (turns : List Turn) (made : ℕ) (old new : Drive) : Type 0 where
  pub small : (bytes : List ℕ) → old.bytes ≡ Some bytes → LeavesNow old IsSmall
      → LeavesOnly old new (λ image. IsSmall image ⊎ RecoversFirst w cells first (length cells) image)
  pub log :
      (bytes : List ℕ) → old.bytes ≡ Some bytes → 17 < length bytes → LeavesNow old (Recovers w (take first cells))
      → LeavesOnly old new (λ image. Recovers w (take first cells) image ⊎ RecoversFirst w cells first (length cells) image)
  pub newest : (bytes : List ℕ) → old.bytes ≡ Some bytes → 17 < length bytes → KeepsNewest old new
  pub from : (bytes : List ℕ) (n : ℕ) → old.bytes ≡ Some bytes → n ≤ made
      → LeavesFrom w cells (machine_at (length cells) first turns n).held new
  pub sound : (n : ℕ) → n ≤ made → IsSound (machine_at (length cells) first turns n)

-- The second file was opened by `opened` device calls, and had `first` of the leader's cells then. `made` turns were
-- made.
pub record PlaysTurns (w : ℕ) (cells : List Cell) (turns : List Turn) (old new : Drive) (status : ℕ) (before after : Output) : Type 0 where
  pub first : ℕ
  pub few : first ≤ length cells
  pub found : (bytes : List ℕ) → old.bytes ≡ Some bytes → IsTaken w cells bytes first
  pub made : ℕ
  pub part : made ≤ length turns
  pub opened : ℕ
  pub opened_is : (bytes : List ℕ) → old.bytes ≡ Some bytes → opened ≡ calls_to_open bytes first
  pub ends : EndsTurns w cells first turns made opened old new status before after
  pub keeps : KeepsFirst w cells first turns made old new

-- What the bytes of the second file decide, unless its drive's fault count rose or memory ran out. A fault that they
-- show is reported, and so is the first cell that isn't the leader's. Over bytes that a follower accepts, all turns are
-- reported.
pub record IsDecidedThere (w : ℕ) (cells : List Cell) (old new : Drive) (status : ℕ) (before after : Output) : Type 0 where
  pub exact :
      (bytes : List ℕ) (fault : OpenFault) → old.bytes ≡ Some bytes → 17 < length bytes → IsInBytes fault
      → IsFault newest (Some w) most_held bytes fault → (Rose old.faults new.faults → ⊥)
      → Refuses (log_refusal fault) status before after ⊎ (status ≡ 9)
  pub strange :
      (bytes : List ℕ) (cell : ℕ) → old.bytes ≡ Some bytes → IsStrange w cells bytes cell → (Rose old.faults new.faults → ⊥)
      → Refuses (refusal.Strange cell) status before after ⊎ (status ≡ 9)
  pub whole :
      (bytes : List ℕ) (first : ℕ) → old.bytes ≡ Some bytes → IsTaken w cells bytes first → (Rose old.faults new.faults → ⊥)
      → (Rose before.faults after.faults → ⊥)
      → (status ≡ 0) ⊎ (status ≡ 9)

-- The leader's cells were followed in the file of this name along turns.
pub record EndsReplica (w : ℕ) (cells : List Cell) (turns : List Turn) (name : List ℕ) (old new : Drive) (status : ℕ) (before after : Output) : Type 0 where
  pub ends : IsUnopened w cells old new status before after ⊎ PlaysTurns w cells turns old new status before after
  pub decided : IsDecidedThere w cells old new status before after
  -- The drive's fault count is unchanged, unless the line says that a drive failed. No call follows one that failed.
  pub calm : status ≢ 7 → new.faults ≡ old.faults
  pub calls : StopsAtFault old new
  -- This file is attached, and created if it isn't there.
  pub attached : AttachesOnce name true old new status
