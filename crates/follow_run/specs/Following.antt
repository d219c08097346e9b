-- The command `follow`.
use Rattle.std.specs.Prelude.{◌≡◌, ◌≢◌, ◌⊎◌, ◌+◌, ◌<◌, ℕ, false, List, [], length, Some, Result, Ok, Err, None}
use Rattle.causes.specs.Causes.{Rose}
use Rattle.disk_trait.specs.Drive.{Stays}
use Rattle.cell_format.specs.declared.cell.Cell.{Cell}
use Rattle.cell_format.specs.Spelling.{newest}
use Rattle.recovery.specs.Faults.{IsFault, IsInBytes}
use Rattle.recovery.specs.declared.seen.OpenFault.{OpenFault}
use Rattle.follower.specs.declared.turns.Turn.{Turn}
use Rattle.follow_run.specs.TurnRows.{turns_of_text}
use Rattle.follower.specs.Holding.{most_followed}
use Rattle.follower.specs.Opening.{IsStrange, IsTaken, most_held}
use Rattle.io_edge.specs.Streams.{Input}
use Rattle.io_edge.specs.Reads.{ConsumesUpTo}
use Rattle.run_ends.specs.declared.refusals.Refusal.{Refusal}
use Rattle.run_ends.specs.declared.refusals.Refusal.TheVariants as refusal
use Rattle.run_ends.specs.LogFaults.{log_refusal}
use Rattle.run_ends.specs.Limits.{most_bytes, oldest_read}
use Rattle.run_ends.specs.Ends.{Ends, Done, Targets}
use Rattle.run_ends.specs.Tables.{judged_by, IsTableCause, ReadsTable}
use Rattle.run_ends.specs.Taking.{Refuses}
use Rattle.run_ends.specs.Ending.{EndsRefused}
use Rattle.run_ends.specs.Attaching.{AttachesOnce}
use Rattle.log_run.specs.Checking.{HasReadLog}
use Rattle.follow_run.specs.Leading.{FindsLeader, RecoversLeader, IsLeaderCause}
use Rattle.follow_run.specs.Replica.{EndsReplica}

-- The turns of an input that isn't too long, or its first fault.
abbrev pub judged_turns : List ℕ → Result (List Turn) Refusal
judged_turns input = judged_by turns_of_text input

-- The leader's cells aren't read, and the second drive is unchanged.
pub record RefusesLeader {D : Type 0} (old new : Targets D) (status : ℕ) : Type 0 where
  pub refused : EndsRefused (IsLeaderCause old.drive new.drive) status old.output new.output
  pub other : new.other ≡ old.other

-- The leader's cells are read, and followed in the file of this name on the second drive, with the same width.
pub record FollowsLeader {D : Type 0} (file name : List ℕ) (turns : List Turn) (old new : Targets D) (status : ℕ) : Type 0 where
  pub width : ℕ
  pub cells : List Cell
  pub found : FindsLeader width old.drive cells
  pub read : HasReadLog file old.drive new.drive
  pub ends : EndsReplica width cells turns name old.other_drive new.other_drive status old.output new.output

-- No fault count of either drive rose.
pub record AreCalm {D : Type 0} (old new : Targets D) : Type 0 where
  pub leader : Rose old.drive.faults new.drive.faults → ⊥
  pub replica : Rose old.other_drive.faults new.other_drive.faults → ⊥

-- What the bytes of both files decide, unless memory ran out or a fault count rose.
-- - A fault of the first file is reported.
-- - If the first file is read, a fault of the second is reported, and so is the first of its cells that isn't the
--   leader's.
-- - If a follower accepts the second file, the status is 0.
pub record AreDecided {D : Type 0} (old new : Targets D) (status : ℕ) : Type 0 where
  pub exact :
      (bytes : List ℕ) (fault : OpenFault) → old.drive.bytes ≡ Some bytes → IsInBytes fault
      → IsFault oldest_read None most_followed bytes fault → (Rose old.drive.faults new.drive.faults → ⊥)
      → Refuses (log_refusal fault) status old.output new.output ⊎ (status ≡ 9)
  pub replica :
      (w : ℕ) (cells : List Cell) (bytes : List ℕ) (fault : OpenFault) → RecoversLeader w cells old.drive
      → old.other_drive.bytes ≡ Some bytes → 17 < length bytes → IsInBytes fault
      → IsFault newest (Some w) most_held bytes fault → AreCalm old new
      → Refuses (log_refusal fault) status old.output new.output ⊎ (status ≡ 9)
  pub strange :
      (w : ℕ) (cells : List Cell) (bytes : List ℕ) (cell : ℕ) → RecoversLeader w cells old.drive → old.other_drive.bytes ≡ Some bytes
      → IsStrange w cells bytes cell → AreCalm old new
      → Refuses (refusal.Strange cell) status old.output new.output ⊎ (status ≡ 9)
  pub whole :
      (w : ℕ) (cells : List Cell) (bytes : List ℕ) (first : ℕ) → RecoversLeader w cells old.drive → old.other_drive.bytes ≡ Some bytes
      → IsTaken w cells bytes first → AreCalm old new
      → (Rose old.output.faults new.output.faults → ⊥) → (status ≡ 0) ⊎ (status ≡ 9)

-- The first file is read, and its cells are followed in the second along turns. The order is attach, walk, attach,
-- open, turns, lines. Bytes and images of the first drive stay the same, whatever the status is.
pub record EndsFollowing {D : Type 0} (file name : List ℕ) (turns : List Turn) (old new : Targets D) (status : ℕ) : Type 0 where
  pub ends : RefusesLeader old new status ⊎ FollowsLeader file name turns old new status
  pub decided : AreDecided old new status
  pub stays : Stays old.drive new.drive
  -- The first drive's fault count is unchanged, unless the line says that a drive failed.
  pub calm : status ≢ 7 → new.drive.faults ≡ old.drive.faults
  -- The first file is attached, and none is created.
  pub attached : AttachesOnce file false old.drive new.drive status

-- The source gave no turns. Both drives are unchanged, and so is the source's fault count if the source didn't fail. At
-- most one byte after the limit was read.
pub record GivesNoTurns {D : Type 0} (before after : Input) (old new : Targets D) (status : ℕ) : Type 0 where
  pub disk : new.disk ≡ old.disk
  pub other : new.other ≡ old.other
  pub calm : status ≢ 5 → after.faults ≡ before.faults
  pub refused : EndsRefused (IsTableCause turns_of_text before after) status old.output new.output
  pub taken : ConsumesUpTo (most_bytes + 1) before.left after.left

-- All bytes of the source were read, and the cells were followed along its turns.
pub record GivesTurns {D : Type 0} (file name : List ℕ) (before after : Input) (old new : Targets D) (status : ℕ) : Type 0 where
  pub turns : List Turn
  pub read : ReadsTable turns_of_text before after turns
  pub ends : EndsFollowing file name turns old new status

-- What the bytes of a source decide, unless its fault count rose or memory ran out. A fault in them is reported. If
-- they are turns, both files decide.
pub record TurnsDecide {D : Type 0} (before after : Input) (old new : Targets D) (status : ℕ) : Type 0 where
  pub wrong :
      (bytes : List ℕ) (why : Refusal) → before.left ≡ Some bytes → judged_turns bytes ≡ Err why → (Rose before.faults after.faults → ⊥)
      → Refuses why status old.output new.output ⊎ (status ≡ 9)
  pub turns : (bytes : List ℕ) (turns : List Turn) → before.left ≡ Some bytes → judged_turns bytes ≡ Ok turns
      → (Rose before.faults after.faults → ⊥) → AreDecided old new status

-- How a run of `follow` ends, depending on what its source gave and what it wrote to.
pub record GoesFollowing {D : Type 0} (file name : List ℕ) (before after : Input) (old new : Targets D) (status : ℕ) : Type 0 where
  pub goes : GivesNoTurns before after old new status ⊎ GivesTurns file name before after old new status
  pub decided : TurnsDecide before after old new status

-- What `follow` promises. No row is called.
pub record Follows {S D : Type 0} (file name : List ℕ) (done : Done (Ends S D)) : Type 0 where
  pub goes : GoesFollowing file name done.old.input done.new.input done.old.to done.new.to done.status
  pub none : done.history ≡ []
