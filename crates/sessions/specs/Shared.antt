-- A book behind a lock: what holds of it, and what it began from.
use Rattle.std.specs.Prelude.{◌≡◌, ℕ, Bool, false, List, [], Option, Some, None, Result, Ok, Err}
use Rattle.std.specs.Option.{option_map, option_map_or}
use Rattle.plain_list.specs.World.{IsWorld, places_of}
use Rattle.plain_list.specs.State.{State, state_after}
use Rattle.plain_list.specs.Size.{full_leaf}
use Rattle.plain_list.specs.History.{world_after}
use Rattle.index_layer.specs.Leaves.{Leaf}
use Rattle.index_layer.specs.Stands.{Stands}
use Rattle.disk_trait.specs.Drive.{Drive}
use Rattle.kept_log.specs.KeptView.{KeptView}
use Rattle.commit_book.specs.BookView.{BookView}
use Rattle.commit_book.specs.Refusals.{closed_refusal}
use Rattle.commit_book.specs.declared.faults.BookFault.{BookFault}
use Rattle.book_lock.specs.declared.origin.Origin.{Origin}
use Rattle.book_lock.specs.declared.origin.LogStart.{LogStart}

-- The objects of the book are a world.
pub record HasWorld {D : Type 0} (b : BookView D) : Type 0 where
  pub world : IsWorld (world_after b.opening.world b.entries)

-- What is known of the drive over which the log was first opened, of whether its records wait for a sync, and of whether a
-- fresh log may replace it, or of a book without a log.
abbrev pub StartsAs : {D : Type 0} → (D → Drive) → Type 0 → (Drive → Bool → Bool → Type 0) → Option (KeptView D) → Type 0
StartsAs drive unlogged Is None = unlogged
StartsAs drive unlogged Is (Some log) = Is (drive log.start) log.at_sync log.moves

-- What holds of each book behind a lock.
pub record IsShared {D : Type 0} (drive : D → Drive) (unlogged : Type 0) (Is : Drive → Bool → Bool → Type 0) (b : BookView D) : Type 0 where
  pub has : HasWorld b
  pub start : StartsAs drive unlogged Is b.log

-- The log at its first opening: the number of cells, the drive's bytes, clock and count of faults, whether cells wait for
-- a sync, and whether a fresh log may replace it.
abbrev pub start_in : {D : Type 0} → (D → Drive) → KeptView D → LogStart
start_in drive log = record {
  cells = log.first;
  bytes = (drive log.start).bytes;
  clock = (drive log.start).clock;
  faults = (drive log.start).faults;
  at_sync = log.at_sync;
  moves = log.moves;
}

-- What a book began from.
abbrev pub origin_of : {D : Type 0} → (D → Drive) → BookView D → Origin
origin_of drive b = record {
  world = b.opening.world;
  leaves = b.opening.leaves;
  begun = b.opening.begun;
  log = option_map (start_in drive) b.log;
  bucket = b.bucket;
  kept = b.kept;
}

-- The state at which a book of this origin began.
abbrev pub start_of : Origin → State
start_of o = record { world = o.world; leaves = o.leaves; splits = []; begun = o.begun }

-- The number of cells that its log had, if there is a log.
abbrev pub first_cells : Origin → Option ℕ
first_cells o = option_map (λ (log : LogStart). log.cells) o.log

-- Whether its cells wait for a sync. Without a log none do.
abbrev pub waits_in : Origin → Bool
waits_in o = option_map_or (λ (log : LogStart). log.at_sync) o.log false

-- Whether a fresh log may replace its log. Without a log none does.
abbrev pub moves_of : Origin → Bool
moves_of o = option_map_or (λ (log : LogStart). log.moves) o.log false

-- These leaves represent the objects before a call, with the leaf names after it.
abbrev pub StandsBefore : {D : Type 0} → ℕ → BookView D → BookView D → List Leaf → Type 0
StandsBefore w old new leaves = Stands leaves (places_of (world_after old.opening.world old.entries)) (state_after w new.opening new.entries).leaves

-- The leaf to split next, or the fault of a closed book.
abbrev pub TellsFull : {D : Type 0} → ℕ → BookView D → Result (Option (List Bool)) BookFault → Type 0
TellsFull w b (Ok full) = (closed_refusal b.entries ≡ None) × (full ≡ full_leaf w b.bucket (state_after w b.opening b.entries))
TellsFull w b (Err fault) = closed_refusal b.entries ≡ Some fault
