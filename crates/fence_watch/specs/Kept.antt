-- What holds of a watch, and of a tally.
use Rattle.std.specs.Prelude.{◌≡◌, ◌≤◌, List, length}
use Rattle.fence_watch.specs.declared.fences.Event.{Event}
use Rattle.fence_watch.specs.declared.counts.FenceCount.{FenceCount}
use Rattle.fence_watch.specs.declared.passages.Chart.{Chart}
use Rattle.fence_watch.specs.Fences.{most_fences}
use Rattle.fence_watch.specs.Watches.{Guard, most_events, fences_of}
use Rattle.fence_watch.specs.Counts.{fences_counted}
use Rattle.fence_watch.specs.Tallies.{TallyView}
use Rattle.fence_watch.specs.Guards.{AllRising}
use Rattle.fence_watch.specs.Passages.{Charts}

-- Its tally has the same fences, the ids inside each rise, and there aren't too many fences.
pub record Keeps (guards : List Guard) (tally : TallyView) : Type 0 where
  pub fences : fences_of guards ≡ fences_counted tally.counts
  pub rising : AllRising guards
  pub few : length (fences_of guards) ≤ most_fences

-- Its chart has the same fences, and there aren't too many fences or events.
pub record KeepsTally (counts : List FenceCount) (chart : Chart) (told : List Event) : Type 0 where
  pub charts : Charts (fences_counted counts) chart
  pub few : length (fences_counted counts) ≤ most_fences
  pub events : length told ≤ most_events
