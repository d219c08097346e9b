-- How far a schedule of turns was played.
use Rattle.std.specs.Prelude.{◌≡◌, ◌≢◌, ◌⊎◌, ◌<◌, ◌≤◌, ℕ, true, false, List, length, take, drop, Some, is_some}
use Rattle.causes.specs.Causes.{Rose}
use Rattle.disk_trait.specs.Drive.{Drive, MadeWell, SameFile, AttachedOne}
use Rattle.disk_trait.specs.Moments.{LeavesNow, LeavesOnly}
use Rattle.cell_format.specs.declared.cell.Cell.{Cell}
use Rattle.cell_format.specs.Spelling.{newest}
use Rattle.split_log.specs.LogText.{IsLog}
use Rattle.log_state.specs.Recovers.{Recovers}
use Rattle.recovery.specs.Calls.{AllWentWell, StopsAtFault}
use Rattle.recovery.specs.Faults.{IsFault, IsInBytes}
use Rattle.recovery.specs.Opening.{IsUntouched}
use Rattle.recovery.specs.declared.seen.OpenFault.{OpenFault}
use Rattle.follower.specs.declared.turns.Turn.{Turn}
use Rattle.follower.specs.declared.turns.Report.{Report}
use Rattle.follower.specs.declared.faults.FollowFault.{FollowFault}
use Rattle.follower.specs.declared.faults.FollowFault.TheVariants.{Memory}
use Rattle.follower.specs.Follow.{AllNameSent, opened_with, reports, IsSound}
use Rattle.follower.specs.Faults.{is_drives, IsFree}
use Rattle.follower.specs.Holding.{FollowerView, HoldsFirst, RecoversFirst}
use Rattle.follower.specs.Turning.{MakesTurn, FailsTurn}
use Rattle.follower.specs.Opening.{CallsToFollow, IsStrange, IsTaken, KeepsTarget, most_held}
use Rattle.io_edge.specs.Streams.{Output}
use Rattle.run_ends.specs.declared.refusals.Refusal.{Refusal}
use Rattle.run_ends.specs.declared.refusals.Refusal.TheVariants as refusal
use Rattle.run_ends.specs.Status.{status_of}
use Rattle.run_ends.specs.Attaching.{AttachesOnce}
use Rattle.run_ends.specs.LogFaults.{log_refusal}
use Rattle.follow_run.specs.Replica.{machine_at, calls_at, IsReplicaCause, EndsTurns, StopsTurns, LeavesFrom, follow_refusal}

-- A follower was opened over the file of this name.
pub record OpensReplica {D : Type 0} (drive : D → Drive) (w : ℕ) (cells : List Cell) (name : List ℕ) (old : Drive) (f : FollowerView D) : Type 0 where
  pub state : f.state ≡ opened_with f.state.held
  pub width : f.width ≡ w
  pub holds : HoldsFirst drive cells f
  pub found : (bytes : List ℕ) → old.bytes ≡ Some bytes → IsTaken w cells bytes f.state.held
  pub told : is_some (drive f.disk).bytes ≡ is_some old.bytes
  pub calm : (drive f.disk).faults ≡ old.faults
  pub calls : CallsToFollow f.state.held old (drive f.disk)
  pub keeps : KeepsTarget w cells old (drive f.disk)
  -- If the bytes are known, they have no fault, and each of their cells is the leader's.
  pub sound : (bytes : List ℕ) (fault : OpenFault) → old.bytes ≡ Some bytes → 17 < length bytes → IsInBytes fault
      → IsFault newest (Some w) most_held bytes fault → ⊥
  pub own : (bytes : List ℕ) (cell : ℕ) → old.bytes ≡ Some bytes → IsStrange w cells bytes cell → ⊥
  pub attached : AttachedOne name true old (drive f.disk)

-- No follower was opened.
pub record LosesReplica (w : ℕ) (cells : List Cell) (name : List ℕ) (old new : Drive) (why : Refusal) : Type 0 where
  pub cause : IsReplicaCause w cells old new why
  pub untouched : status_of why ≢ 7 → (bytes : List ℕ) → old.bytes ≡ Some bytes → IsUntouched old new
  pub keeps : KeepsTarget w cells old new
  pub exact :
      (bytes : List ℕ) (fault : OpenFault) → old.bytes ≡ Some bytes → 17 < length bytes → IsInBytes fault
      → IsFault newest (Some w) most_held bytes fault → (Rose old.faults new.faults → ⊥)
      → (why ≡ log_refusal fault) ⊎ (why ≡ refusal.Memory)
  pub strange : (bytes : List ℕ) (cell : ℕ) → old.bytes ≡ Some bytes → IsStrange w cells bytes cell → (Rose old.faults new.faults → ⊥)
      → (why ≡ refusal.Strange cell) ⊎ (why ≡ refusal.Memory)
  pub whole : (bytes : List ℕ) (first : ℕ) → old.bytes ≡ Some bytes → IsTaken w cells bytes first → (Rose old.faults new.faults → ⊥)
      → why ≡ refusal.Memory
  pub calm : status_of why ≢ 7 → new.faults ≡ old.faults
  pub calls : StopsAtFault old new
  pub attached : AttachesOnce name true old new (status_of why)

-- What a crash leaves since a follower was opened: the first of the cells, at least as many as were held then. At each
-- turn it leaves at least as many as were held before the turn.
pub record PassesTurns (w : ℕ) (cells : List Cell) (first : ℕ) (turns : List Turn) (made : ℕ) (old new : Drive) : Type 0 where
  pub whole : LeavesOnly old new (RecoversFirst w cells first (length cells))
  pub from : (n : ℕ) → n ≤ made → LeavesFrom w cells (machine_at (length cells) first turns n).held new

-- `made` turns were made since a follower was opened.
pub record HasPlayed {D : Type 0} (drive : D → Drive) (w : ℕ) (cells : List Cell) (first : ℕ) (turns : List Turn) (made : ℕ) (old : Drive) (f : FollowerView D) : Type 0 where
  pub state : f.state ≡ machine_at (length cells) first turns made
  pub width : f.width ≡ w
  pub holds : HoldsFirst drive cells f
  pub sound : (n : ℕ) → n ≤ made → IsSound (machine_at (length cells) first turns n)
  pub least : (n : ℕ) → n ≤ made → (machine_at (length cells) first turns n).held ≤ f.state.held
  pub sent : AllNameSent (length f.state.packets) (length f.state.acks) (drop made turns)
  pub told : is_some (drive f.disk).bytes ≡ is_some old.bytes
  pub calm : (drive f.disk).faults ≡ old.faults
  pub well : AllWentWell old (drive f.disk)
  pub calls : (bytes : List ℕ) → old.bytes ≡ Some bytes → MadeWell (calls_at (length cells) first turns made) old (drive f.disk)
  pub file : SameFile old (drive f.disk)
  pub passes : (bytes : List ℕ) → old.bytes ≡ Some bytes → PassesTurns w cells first turns made old (drive f.disk)

-- All turns were made, and these are their reports.
pub record PlaysAll (w : ℕ) (cells : List Cell) (first : ℕ) (turns : List Turn) (old new : Drive) (told : List Report) : Type 0 where
  pub reports_are : told ≡ reports (length cells) (opened_with first) turns
  pub sound : (n : ℕ) → n ≤ length turns → IsSound (machine_at (length cells) first turns n)
  pub passes : (bytes : List ℕ) → old.bytes ≡ Some bytes → PassesTurns w cells first turns (length turns) old new
  pub exactly : (bytes : List ℕ) → old.bytes ≡ Some bytes
      → LeavesNow new (Recovers w (take (machine_at (length cells) first turns (length turns)).held cells))
  pub log : (bytes : List ℕ) → old.bytes ≡ Some bytes → IsLog w (take (machine_at (length cells) first turns (length turns)).held cells) new
  pub calm : new.faults ≡ old.faults
  pub well : AllWentWell old new
  pub calls : (bytes : List ℕ) → old.bytes ≡ Some bytes → MadeWell (calls_at (length cells) first turns (length turns)) old new
  pub file : SameFile old new

-- The turns stopped at a fault.
pub record StopsPlaying (w : ℕ) (cells : List Cell) (first : ℕ) (turns : List Turn) (old new : Drive) (fault : FollowFault) : Type 0 where
  pub made : ℕ
  pub part : made ≤ length turns
  pub stops : StopsTurns w cells first turns made 0 old new (follow_refusal fault)
  pub sound : (n : ℕ) → n ≤ made → IsSound (machine_at (length cells) first turns n)
  pub passes : (bytes : List ℕ) → old.bytes ≡ Some bytes → PassesTurns w cells first turns made old new
  pub calm : is_drives fault ≡ false → new.faults ≡ old.faults
  pub free : (bytes : List ℕ) → old.bytes ≡ Some bytes → IsFree old new fault
  pub later : old.faults ≤ new.faults
  pub calls : StopsAtFault old new
  pub file : SameFile old new

-- A turn was refused, or its report couldn't be kept. If the bytes are known, the drive failed or memory ran out.
pub record LosesTurn {D : Type 0} (drive : D → Drive) (cells : List Cell) (turn : Turn) (old : FollowerView D) (disk : D) (fault : FollowFault) : Type 0 where
  pub why : FailsTurn drive cells turn old disk fault
      ⊎ ((f : FollowerView D) × (f.disk ≡ disk) × (fault ≡ Memory) × MakesTurn drive cells turn old f)
  pub free : (bytes : List ℕ) → (drive old.disk).bytes ≡ Some bytes → IsFree (drive old.disk) (drive disk) fault

-- How turns end that are played since a follower was opened.
pub record EndsPlaying (w : ℕ) (cells : List Cell) (first : ℕ) (turns : List Turn) (old new : Drive) (status : ℕ) (before after : Output) : Type 0 where
  pub made : ℕ
  pub part : made ≤ length turns
  pub ends : EndsTurns w cells first turns made 0 old new status before after
  pub sound : (n : ℕ) → n ≤ made → IsSound (machine_at (length cells) first turns n)
  pub passes : (bytes : List ℕ) → old.bytes ≡ Some bytes → PassesTurns w cells first turns made old new
  pub whole : (bytes : List ℕ) → old.bytes ≡ Some bytes → (Rose old.faults new.faults → ⊥) → (Rose before.faults after.faults → ⊥)
      → (status ≡ 0) ⊎ (status ≡ 9)
  pub calm : status ≢ 7 → new.faults ≡ old.faults
  pub later : old.faults ≤ new.faults
  pub calls : StopsAtFault old new
  pub file : SameFile old new
