-- A tally that follows changes, and what it has if they are the changes of a history.
use Rattle.std.specs.Prelude.{◌≡◌, ◌≤◌, List, [], ◌∷◌, ◌++◌, length, map, Some}
use Rattle.std.specs.List.{flat_map}
use Rattle.plain_list.specs.declared.object_changes.Change.{Change}
use Rattle.plain_list.specs.Places.{IsRising}
use Rattle.plain_list.specs.World.{World, places_of, most_members}
use Rattle.fence_watch.specs.declared.counts.FenceCount.{FenceCount}
use Rattle.fence_watch.specs.declared.fences.Event.{Event}
use Rattle.fence_watch.specs.declared.fences.Fence.{Fence}
use Rattle.fence_watch.specs.Crossings.{crossings_of}
use Rattle.fence_watch.specs.Tallies.{TallyView, count_behind, count_in}

-- The crossings of changes, in order.
abbrev pub changes_crossings : List Change → List Fence → List Event
changes_crossings changes fences = flat_map (λ (c : Change). crossings_of c.place c.id c.before c.after fences) changes

-- Fences with how many objects are inside, after changes.
abbrev pub counts_after : List Change → List FenceCount → List FenceCount
counts_after [] counts = counts
counts_after (c ∷ changes) counts = counts_after changes (map (count_behind (Some c.id) c.before c.after) counts)

-- The tally after these changes, from a world on. The ids of the world rise, and it has at most `most_members` objects.
-- The events are the crossings of the changes, of which the first were taken out. The numbers are those of the world
-- after the changes.
pub record TalliesChanges (world : World) (taken : List Event) (changes : List Change) (fences : List Fence) (v : TallyView) : Type 0 where
  pub rising : IsRising (places_of world)
  pub few : length world ≤ most_members
  pub events : taken ++ v.events ≡ changes_crossings changes fences
  pub counts : v.counts ≡ counts_after changes (map (count_in world) fences)
