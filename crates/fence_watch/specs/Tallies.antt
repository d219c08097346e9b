-- What a tally keeps along the cells of a log, or of a program's own steps.
use Rattle.std.specs.Prelude.{◌≡◌, ◌+◌, ◌-◌, ◌<◌, ◌≤◌, ℕ, List, [], ◌++◌, length, map, if◌then◌else◌, Option, Some, None}
use Rattle.zorder.specs.declared.points.Point.{Point}
use Rattle.cell_format.specs.declared.cell.Cell.{Cell}
use Rattle.plain_list.specs.declared.ops.Op.{Op}
use Rattle.plain_list.specs.declared.ops.Answer.{Answer}
use Rattle.plain_list.specs.Changes.{change_of}
use Rattle.plain_list.specs.Places.{IsRising}
use Rattle.plain_list.specs.World.{World, places_of, most_members}
use Rattle.fence_watch.specs.declared.fences.Fence.{Fence}
use Rattle.fence_watch.specs.declared.fences.Event.{Event}
use Rattle.fence_watch.specs.declared.counts.FenceCount.{FenceCount}
use Rattle.recovery.specs.declared.walked.Walked.{Walked}
use Rattle.recovery.specs.Walks.{object_of}
use Rattle.fence_watch.specs.Fences.{lies_in, inside_of}
use Rattle.fence_watch.specs.Crossings.{world_after_cells, crossings_by, crossings_from}
use Rattle.fence_watch.specs.declared.passages.Pair.{Pair}
use Rattle.fence_watch.specs.declared.passages.Went.{Went}
use Rattle.fence_watch.specs.Passages.{ShowsPassage}
use Rattle.fence_watch.specs.Watches.{most_events}
use Rattle.fence_watch.specs.Counts.{fences_counted, one_more}

-- The fences, with how many objects are inside, and the events that weren't taken out.
pub record TallyView : Type 0 where
  pub counts : List FenceCount
  pub events : List Event

-- How many objects are inside a fence after a step of an object.
abbrev pub number_behind : Option Point → Option Point → Fence → ℕ → ℕ
number_behind before after f n =
    if lies_in f before then (if lies_in f after then n else n - 1) else (if lies_in f after then one_more n else n)

-- A fence after a step of an object. There may be no object.
abbrev pub count_behind : Option ℕ → Option Point → Option Point → FenceCount → FenceCount
count_behind None before after c = c
count_behind (Some id) before after c = record { fence = c.fence; inside = number_behind before after c.fence c.inside }

-- The events of a cell.
abbrev pub events_told : Walked → List FenceCount → List Event
events_told walked counts = crossings_by walked.at (object_of walked.cell) walked.before walked.after (fences_counted counts)

-- A step with this number, in which an object goes from one position to another. There may be no object.
pub record TalliesBy (at : ℕ) (object : Option ℕ) (before after : Option Point) (old new : TallyView) : Type 0 where
  pub events : new.events ≡ old.events ++ crossings_by at object before after (fences_counted old.counts)
  pub counts : new.counts ≡ map (count_behind object before after) old.counts

-- A step along a cell.
abbrev pub Tallies : Walked → TallyView → TallyView → Type 0
Tallies walked old new = TalliesBy walked.at (object_of walked.cell) walked.before walked.after old new

-- How an object crosses the fences of a tally.
abbrev pub Shows : Went → TallyView → List Pair → Type 0
Shows went v passage = ShowsPassage went.before went.after (fences_counted v.counts) passage

-- With such a step there would be too many events.
abbrev pub IsPastBy : ℕ → Option ℕ → Option Point → Option Point → TallyView → Type 0
IsPastBy at object before after old =
    most_events < length old.events + length (crossings_by at object before after (fences_counted old.counts))

abbrev pub IsPast : Walked → TallyView → Type 0
IsPast walked old = IsPastBy walked.at (object_of walked.cell) walked.before walked.after old

-- A fence with how many of a world's objects are inside.
abbrev pub count_in : World → Fence → FenceCount
count_in world f = record { fence = f; inside = length (inside_of world f) }

-- The tally after steps along these cells. The first cell has the number `at` and comes after this world. The ids of
-- the world rise, and it has at most `most_members` objects. The events are the crossings of the cells, of which the
-- first were taken out. The numbers are those of the world after the cells.
pub record TalliesFrom (at : ℕ) (world : World) (taken : List Event) (cells : List Cell) (fences : List Fence) (v : TallyView) : Type 0 where
  pub rising : IsRising (places_of world)
  pub few : length world ≤ most_members
  pub events : taken ++ v.events ≡ crossings_from at world cells fences
  pub counts : v.counts ≡ map (count_in (world_after_cells world cells)) fences

-- The same along the cells of a log, from the first one on.
abbrev pub TalliesCells : List Event → List Cell → List Fence → TallyView → Type 0
TalliesCells taken cells fences v = TalliesFrom 0 [] taken cells fences v

-- The numbers of objects inside the fences are those of this world. Its ids rise, and it has at most `most_members`
-- objects.
pub record FollowsWorld (world : World) (fences : List Fence) (v : TallyView) : Type 0 where
  pub rising : IsRising (places_of world)
  pub few : length world ≤ most_members
  pub counts : v.counts ≡ map (count_in world) fences

-- An operation with this answer changed this object, and these are its positions before and after.
abbrev pub IsStepOf : ℕ → Option Point → Option Point → Op → Answer → Type 0
IsStepOf id before after op answer = (place : ℕ) × (change_of place op answer ≡ Some (record { place = place; id = id; before = before; after = after }))
