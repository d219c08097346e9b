-- The command `watch`.
use Rattle.std.specs.Prelude.{◌≡◌, ◌≢◌, ◌⊎◌, ◌+◌, ◌<◌, ◌≤◌, ℕ, List, [], length, Some, Ok, Err, false, None}
use Rattle.causes.specs.Causes.{Rose}
use Rattle.disk_trait.specs.Drive.{Drive, Stays}
use Rattle.cell_format.specs.declared.cell.Cell.{Cell}
use Rattle.log_state.specs.Recovers.{Recovers}
use Rattle.recovery.specs.Faults.{BeginsWith, IsInBytes, IsFault}
use Rattle.recovery.specs.Found.{IsWanted}
use Rattle.zorder.specs.Width.{IsWidth}
use Rattle.recovery.specs.declared.seen.OpenFault.{OpenFault}
use Rattle.io_edge.specs.Streams.{Input, Output}
use Rattle.io_edge.specs.Reads.{ConsumesUpTo}
use Rattle.run_ends.specs.declared.refusals.Refusal.{Refusal}
use Rattle.run_ends.specs.declared.refusals.Refusal.TheVariants as refusal
use Rattle.run_ends.specs.Limits.{most_bytes, most_inspected, oldest_read}
use Rattle.run_ends.specs.Ends.{Ends, Done, Targets}
use Rattle.run_ends.specs.Taking.{Refuses}
use Rattle.run_ends.specs.Ending.{EndsRefused}
use Rattle.run_ends.specs.Attaching.{AttachesOnce}
use Rattle.run_ends.specs.LogFaults.{log_refusal}
use Rattle.run_ends.specs.Tables.{IsTableCause, ReadsTable, judged_by}
use Rattle.log_run.specs.Checking.{IsCheckingCause, TellsCells}
use Rattle.fence_watch.specs.declared.fences.Fence.{Fence}
use Rattle.watch_run.specs.FenceRows.{fences_of_text}
use Rattle.fence_watch.specs.Crossings.{crossings}
use Rattle.fence_watch.specs.Watches.{most_events}
use Rattle.watch_run.specs.WatchLines.{watched_text}

-- The bytes begin with the head of a log that is read, with legal cells, few enough, and a commit byte after them.
-- These cells have more crossings than are kept.
pub record IsCrowded (fences : List Fence) (bytes : List ℕ) : Type 0 where
  pub version : ℕ
  pub wanted : IsWanted oldest_read version
  pub width : ℕ
  pub known : IsWidth width
  pub cells : List Cell
  pub tail : List ℕ
  pub begins : BeginsWith version width cells tail bytes
  pub some : 1 ≤ length tail
  pub few : length cells ≤ most_inspected
  pub over : most_events < length (crossings cells fences)

-- If the drive's content is known, its bytes are crowded.
abbrev pub ShowsCrowd : List Fence → Drive → Type 0
ShowsCrowd fences drive = (bytes : List ℕ) → drive.bytes ≡ Some bytes → IsCrowded fences bytes

-- Why the crossings of a log aren't written: the log isn't read, or it has too many crossings.
abbrev pub IsWatchingCause : List Fence → Drive → Drive → Refusal → Type 0
IsWatchingCause fences old new why = IsCheckingCause old new why ⊎ ((why ≡ refusal.LongEvents) × ShowsCrowd fences old)

-- What the bytes of the log decide, unless the drive's fault count rose or memory ran out.
-- - Too many crossings are reported, even if they are along the first cells and a fault follows these.
-- - Otherwise a fault that the bytes show is reported.
-- - Bytes that recover to cells with few enough crossings lead to their text, unless the sink's fault count rose.
pub record IsDecidedAlong (fences : List Fence) (old new : Drive) (status : ℕ) (before after : Output) : Type 0 where
  pub over : (bytes : List ℕ) → old.bytes ≡ Some bytes → IsCrowded fences bytes → (Rose old.faults new.faults → ⊥)
      → Refuses refusal.LongEvents status before after ⊎ (status ≡ 9)
  pub exact : (bytes : List ℕ) (fault : OpenFault) → old.bytes ≡ Some bytes → IsInBytes fault
      → IsFault oldest_read None most_inspected bytes fault → (IsCrowded fences bytes → ⊥)
      → (Rose old.faults new.faults → ⊥) → Refuses (log_refusal fault) status before after ⊎ (status ≡ 9)
  pub whole : (bytes : List ℕ) (w : ℕ) (cells : List Cell) → old.bytes ≡ Some bytes → IsWidth w → Recovers w cells bytes
      → length cells ≤ most_inspected → length (crossings cells fences) ≤ most_events
      → (Rose old.faults new.faults → ⊥) → (Rose before.faults after.faults → ⊥) → (status ≡ 0) ⊎ (status ≡ 9)

-- The text of the crossings of these fences along the cells of the log, and of the objects inside after the last one.
-- Or the line of a refusal. The drive's bytes and images stay the same.
pub record EndsWatching {D : Type 0} (fences : List Fence) (file : List ℕ) (old new : Targets D) (status : ℕ) : Type 0 where
  pub ends : TellsCells (watched_text fences) old.drive status old.output new.output
      ⊎ EndsRefused (IsWatchingCause fences old.drive new.drive) status old.output new.output
  pub decided : IsDecidedAlong fences old.drive new.drive status old.output new.output
  pub stays : Stays old.drive new.drive
  -- The drive's fault count is unchanged, unless the line says that the drive failed.
  pub calm : status ≢ 7 → new.drive.faults ≡ old.drive.faults
  -- This file is attached, and none is created.
  pub attached : AttachesOnce file false old.drive new.drive status

-- The source gave no fences. The drive is unchanged, and so is the source's fault count if the source didn't fail.
-- However long the input is, at most one byte after the limit was read.
pub record IsUnfenced {D : Type 0} (before after : Input) (old new : Targets D) (status : ℕ) : Type 0 where
  pub disk : new.disk ≡ old.disk
  pub calm : status ≢ 5 → after.faults ≡ before.faults
  pub refused : EndsRefused (IsTableCause fences_of_text before after) status old.output new.output
  pub taken : ConsumesUpTo (most_bytes + 1) before.left after.left

-- All bytes of the source were read, and its fences were watched along the log.
pub record IsFenced {D : Type 0} (file : List ℕ) (before after : Input) (old new : Targets D) (status : ℕ) : Type 0 where
  pub fences : List Fence
  pub read : ReadsTable fences_of_text before after fences
  pub ends : EndsWatching fences file old new status

-- How a watch ends, depending on what its source gave and what it wrote to.
abbrev pub GoesAlong : {D : Type 0} → List ℕ → Input → Input → Targets D → Targets D → ℕ → Type 0
GoesAlong file before after old new status = IsUnfenced before after old new status ⊎ IsFenced file before after old new status

-- What `watch` promises. No row is called, and the second drive is unchanged. Bad fences lead to their refusal,
-- whatever the log is. With good fences the log's bytes decide, unless the source's fault count rose or memory ran out.
pub record Watches {S D : Type 0} (file : List ℕ) (done : Done (Ends S D)) : Type 0 where
  pub goes : GoesAlong file done.old.input done.new.input done.old.to done.new.to done.status
  pub none : done.history ≡ []
  pub other : done.new.to.other ≡ done.old.to.other
  pub input : (bytes : List ℕ) (why : Refusal) → done.old.input.left ≡ Some bytes → judged_by fences_of_text bytes ≡ Err why
      → (Rose done.old.input.faults done.new.input.faults → ⊥)
      → Refuses why done.status done.old.to.output done.new.to.output ⊎ (done.status ≡ 9)
  pub log : (bytes : List ℕ) (fences : List Fence) → done.old.input.left ≡ Some bytes → judged_by fences_of_text bytes ≡ Ok fences
      → (Rose done.old.input.faults done.new.input.faults → ⊥)
      → IsDecidedAlong fences done.old.to.drive done.new.to.drive done.status done.old.to.output done.new.to.output
