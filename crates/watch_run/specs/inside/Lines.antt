-- The lines of what a tally keeps.
use Rattle.std.specs.Prelude.{ℕ, List, ◌++◌}
use Rattle.std.specs.List.{flat_map}
use Rattle.fence_watch.specs.declared.counts.FenceCount.{FenceCount}
use Rattle.fence_watch.specs.Tallies.{TallyView}
use Rattle.watch_run.specs.WatchLines.{watch_title, event_line, inside_line}

-- The line of a fence.
abbrev pub counted_line : FenceCount → List ℕ
counted_line c = inside_line c.inside c.fence.id

-- The first line, a line for each event, and one for each fence.
abbrev pub view_text : TallyView → List ℕ
view_text v = watch_title ++ flat_map event_line v.events ++ flat_map counted_line v.counts
