-- How a watch follows the cells of a log.
use Rattle.std.specs.Prelude.{◌≡◌, ◌≢◌, ◌⊎◌, ◌≤◌, ℕ, List, [], length, Some, false, None}
use Rattle.causes.specs.Causes.{Rose}
use Rattle.disk_trait.specs.Drive.{Drive, SameFile, Stays}
use Rattle.cell_format.specs.declared.cell.Cell.{Cell}
use Rattle.log_state.specs.Recovers.{Recovers}
use Rattle.recovery.specs.Faults.{IsInBytes, IsFault}
use Rattle.recovery.specs.Walks.{ComesAlong, WalkView}
use Rattle.zorder.specs.Width.{IsWidth}
use Rattle.recovery.specs.declared.seen.OpenFault.{OpenFault}
use Rattle.run_ends.specs.declared.refusals.Refusal.{Refusal}
use Rattle.run_ends.specs.declared.refusals.Refusal.TheVariants as refusal
use Rattle.run_ends.specs.Limits.{most_inspected, oldest_read}
use Rattle.run_ends.specs.LogFaults.{log_refusal}
use Rattle.run_ends.specs.Status.{status_of}
use Rattle.run_ends.specs.Attaching.{AttachesOnce}
use Rattle.log_run.specs.Checking.{FindsCells, HasReadLog}
use Rattle.fence_watch.specs.declared.fences.Fence.{Fence}
use Rattle.fence_watch.specs.Crossings.{crossings}
use Rattle.fence_watch.specs.Tallies.{TalliesCells, TallyView}
use Rattle.fence_watch.specs.Watches.{most_events}
use Rattle.fence_watch.specs.declared.watch.WatchFault.{WatchFault}
use Rattle.fence_watch.specs.declared.watch.WatchFault.TheVariants as fault
use Rattle.watch_run.specs.Watching.{IsCrowded, IsWatchingCause}

-- The drive was only read, and no call failed.
pub record IsCalm (old new : Drive) : Type 0 where
  pub stays : Stays old new
  pub same : new.faults ≡ old.faults
  pub file : SameFile old new

-- A watch along all cells of a log.
pub record FindsAlong (fences : List Fence) (old : Drive) (v : TallyView) : Type 0 where
  pub width : ℕ
  pub cells : List Cell
  pub found : FindsCells width old cells
  pub tallies : TalliesCells [] cells fences v
  pub under : length v.events ≤ most_events

-- A watch along the log that was already attached.
pub record RunsAlong (fences : List Fence) (old new : Drive) (v : TallyView) : Type 0 where
  pub finds : FindsAlong fences old v
  pub calm : IsCalm old new

-- A watch along the log in the file of this name.
pub record RunsFile (fences : List Fence) (file : List ℕ) (old new : Drive) (v : TallyView) : Type 0 where
  pub finds : FindsAlong fences old v
  pub read : HasReadLog file old new
  pub stays : Stays old new

-- Why a watch doesn't come to the log's end, and what the bytes say about that.
pub record RefusesAlong (fences : List Fence) (old new : Drive) (why : Refusal) : Type 0 where
  pub cause : IsWatchingCause fences old new why
  pub over : (bytes : List ℕ) → old.bytes ≡ Some bytes → IsCrowded fences bytes → (Rose old.faults new.faults → ⊥)
      → (why ≡ refusal.LongEvents) ⊎ (why ≡ refusal.Memory)
  pub exact : (bytes : List ℕ) (fault : OpenFault) → old.bytes ≡ Some bytes → IsInBytes fault
      → IsFault oldest_read None most_inspected bytes fault → (IsCrowded fences bytes → ⊥)
      → (Rose old.faults new.faults → ⊥) → (why ≡ log_refusal fault) ⊎ (why ≡ refusal.Memory)
  pub whole : (bytes : List ℕ) (w : ℕ) (cells : List Cell) → old.bytes ≡ Some bytes → IsWidth w → Recovers w cells bytes
      → length cells ≤ most_inspected → length (crossings cells fences) ≤ most_events
      → (Rose old.faults new.faults → ⊥) → why ≡ refusal.Memory
  pub stays : Stays old new
  pub calm : status_of why ≢ 7 → new.faults ≡ old.faults

-- The same for the log in a file of this name.
pub record RefusesFile (fences : List Fence) (file : List ℕ) (old new : Drive) (why : Refusal) : Type 0 where
  pub refuses : RefusesAlong fences old new why
  pub attached : AttachesOnce file false old new (status_of why)

-- The same for a log that was already attached.
pub record RefusesAttached (fences : List Fence) (old new : Drive) (why : Refusal) : Type 0 where
  pub refuses : RefusesAlong fences old new why
  pub file : SameFile old new

-- A walk before the first cell of a log, with its own width.
abbrev pub IsStarted : {D : Type 0} → Drive → WalkView D → Type 0
IsStarted drive walk = ComesAlong walk.reading.replay.width most_inspected [] drive walk

-- Such a walk, with a watch of these fences.
pub record IsBegun {D : Type 0} (fences : List Fence) (drive : Drive) (walk : WalkView D) (v : TallyView) : Type 0 where
  pub started : IsStarted drive walk
  pub none : TalliesCells [] [] fences v

-- The refusal for a fault of a watch.
abbrev pub watch_refusal : WatchFault → Refusal
watch_refusal fault.TooMany = refusal.LongEvents
watch_refusal fault.Memory = refusal.Memory
