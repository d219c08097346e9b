-- How a tally follows the cells that a walk has before it.
use Rattle.std.specs.Prelude.{◌≡◌, ◌↔◌, ◌≤◌, ℕ, List, [], ◌∷◌, ◌++◌, length, Option, Some, None, Result, Ok, Err}
use Rattle.cell_format.specs.declared.cell.Cell.{Cell}
use Rattle.disk_trait.specs.Drive.{Drive}
use Rattle.log_state.specs.Recovers.{Recovers, state_of}
use Rattle.recovery.specs.declared.seen.OpenFault.{OpenFault}
use Rattle.recovery.specs.declared.walked.Walked.{Walked}
use Rattle.recovery.specs.Faults.{IsFault, IsInBytes}
use Rattle.recovery.specs.Walks.{ComesTo, IsNextWalked, TellsAll, TellsFault, TellsWalked, WalkView}
use Rattle.fence_watch.specs.declared.along.AlongFault.{AlongFault}
use Rattle.fence_watch.specs.declared.along.AlongFault.TheVariants.{Watch, Log}
use Rattle.fence_watch.specs.declared.fences.Event.{Event}
use Rattle.fence_watch.specs.declared.fences.Fence.{Fence}
use Rattle.fence_watch.specs.declared.watch.WatchFault.{WatchFault}
use Rattle.fence_watch.specs.declared.watch.WatchFault.TheVariants.{TooMany}
use Rattle.fence_watch.specs.Tallies.{IsPast, TalliesFrom, TallyView}

-- A tally followed cells. They begin with `begun`, and in the log they come after `front`. `told` is what the walk
-- returned last, after these cells. `old` is the drive at the start, and `new` is the drive as the walk leaves it.
pub record IsLed {D : Type 0} (w most : ℕ) (front begun : List Cell) (taken : List Event) (fences : List Fence) (old new : Drive)
    (walk : WalkView D) (v : TallyView) (told : Result (Option Walked) OpenFault) : Type 0 where
  pub cells : List Cell
  pub begins : (more : List Cell) × (cells ≡ begun ++ more)
  pub tallies : TalliesFrom (length front) (state_of w front).world taken cells fences v
  pub tells : TellsWalked w most (front ++ cells) old new walk told
  pub exact : (bytes : List ℕ) (fault : OpenFault) → old.bytes ≡ Some bytes → IsInBytes fault → IsFault 1 (Some w) most bytes fault
      → TellsFault fault old new told
  pub whole : (all : List Cell) (bytes : List ℕ) → old.bytes ≡ Some bytes → Recovers w all bytes → length all ≤ most
      → TellsAll all (front ++ cells) old new told

-- A tally followed cells up to a step that it didn't make. The cause is `TooMany` if and only if there would be too
-- many events. After that step the tally has followed the same cells as the walk, so it may continue from there.
pub record StopsAt {D : Type 0} (w most : ℕ) (front begun : List Cell) (taken : List Event) (fences : List Fence) (old new : Drive)
    (walk : WalkView D) (v : TallyView) (fault : WatchFault) (walked : Walked) : Type 0 where
  pub led : IsLed w most front begun taken fences old new walk v (Ok (Some walked))
  pub full : (fault ≡ TooMany) ↔ IsPast walked v
  pub next : IsNextWalked w (front ++ led.cells) walked
  pub came : ComesTo w most (front ++ (led.cells ++ walked.cell ∷ [])) new walk

-- A tally followed cells to the log's end, up to a step that it didn't make, or up to a fault of the walk.
abbrev pub GoesAlong : {D : Type 0} → ℕ → ℕ → List Cell → List Cell → List Event → List Fence → Drive → Drive → WalkView D → TallyView
    → Result (Unit {0}) AlongFault → Type 0
GoesAlong w most front begun taken fences old new walk v (Ok done) = IsLed w most front begun taken fences old new walk v (Ok None)
GoesAlong w most front begun taken fences old new walk v (Err (Log e)) = IsLed w most front begun taken fences old new walk v (Err e)
GoesAlong w most front begun taken fences old new walk v (Err (Watch fault walked)) = StopsAt w most front begun taken fences old new walk v fault walked

-- The walk's last result, as far as it concerns the drive.
abbrev pub read_of : Result (Unit {0}) AlongFault → Result (Unit {0}) OpenFault
read_of (Ok done) = Ok done
read_of (Err (Log e)) = Err e
read_of (Err (Watch fault walked)) = Ok tt
