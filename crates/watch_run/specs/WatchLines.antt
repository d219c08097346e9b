-- The text of the crossings of fences along the cells of a log.
use Rattle.std.specs.Prelude.{ℕ, List, ◌++◌, length, codes}
use Rattle.std.specs.List.{flat_map}
use Rattle.std.specs.Fmt.{decimal}
use Rattle.cell_format.specs.declared.cell.Cell.{Cell}
use Rattle.plain_list.specs.World.{World}
use Rattle.log_state.specs.Recovers.{state_of}
use Rattle.fence_watch.specs.declared.fences.Fence.{Fence}
use Rattle.fence_watch.specs.declared.fences.Event.{Event}
use Rattle.fence_watch.specs.declared.fences.Crossing.{Crossing}
use Rattle.fence_watch.specs.declared.fences.Crossing.TheVariants.{Enter, Leave}
use Rattle.fence_watch.specs.Fences.{inside_of}
use Rattle.fence_watch.specs.Crossings.{crossings}

-- The first line.
abbrev pub watch_title : List ℕ
watch_title = codes "cell,event,id,fence\n"

-- Whether an object entered or left, between commas.
abbrev pub way_text : Crossing → List ℕ
way_text Enter = codes ",enter,"
way_text Leave = codes ",leave,"

-- The line of a crossing: the cell's number, `enter` or `leave`, the object and the fence.
abbrev pub event_line : Event → List ℕ
event_line e = decimal e.at ++ way_text e.crossing ++ decimal e.id ++ codes "," ++ decimal e.fence ++ codes "\n"

-- The line of a fence with `count` objects inside at the end.
abbrev pub inside_line : ℕ → ℕ → List ℕ
inside_line count fence = codes "end,inside," ++ decimal count ++ codes "," ++ decimal fence ++ codes "\n"

-- The line of a fence in a world.
abbrev pub end_line : World → Fence → List ℕ
end_line world f = inside_line (length (inside_of world f)) f.id

-- The first line, a line for each crossing of cells of this width, in their order, and one for each fence in the world
-- after the cells.
unfoldable pub watched_text : List Fence → ℕ → List Cell → List ℕ
watched_text fences w cells = watch_title ++ flat_map event_line (crossings cells fences) ++ flat_map (end_line (state_of w cells).world) fences
