-- Which objects enter and leave fences along the cells of a log.
use Rattle.std.specs.Prelude.{◌≡◌, ℕ, ◌+◌, List, [], ◌∷◌, ◌++◌, length, if◌then◌else◌, Option, Some, None}
use Rattle.std.specs.List.{flat_map}
use Rattle.zorder.specs.declared.points.Point.{Point}
use Rattle.cell_format.specs.declared.cell.Cell.{Cell}
use Rattle.cell_format.specs.declared.cell.Cell.TheVariants as cell
use Rattle.plain_list.specs.declared.ops.Op.TheVariants as op
use Rattle.plain_list.specs.Answer.{after_of}
use Rattle.plain_list.specs.World.{World}
use Rattle.fence_watch.specs.declared.fences.Fence.{Fence}
use Rattle.fence_watch.specs.declared.fences.Event.{Event}
use Rattle.fence_watch.specs.declared.fences.Crossing.TheVariants.{Enter, Leave}
use Rattle.recovery.specs.declared.walked.Walked.{Walked}
use Rattle.recovery.specs.Walks.{object_of, place_in}
use Rattle.fence_watch.specs.Fences.{lies_in}

-- The world after a cell.
abbrev pub world_behind : World → Cell → World
world_behind world (cell.Put id at moment) = after_of world (op.Put id at moment)
world_behind world (cell.Move id at moment) = after_of world (op.Move id at moment)
world_behind world (cell.Remove id) = after_of world (op.Remove id)
world_behind world (cell.Begin number name) = world
world_behind world (cell.Install number) = world
world_behind world (cell.Abandon number) = world

-- The world after cells.
abbrev pub world_after_cells : World → List Cell → World
world_after_cells world [] = world
world_after_cells world (c ∷ cells) = world_after_cells (world_behind world c) cells

-- The event of one fence, if an object goes from one position to another.
abbrev pub crossing_of : ℕ → ℕ → Option Point → Option Point → Fence → List Event
crossing_of at id before after f =
    if lies_in f before then (if lies_in f after then [] else record { at = at; crossing = Leave; id = id; fence = f.id } ∷ [])
    else (if lies_in f after then record { at = at; crossing = Enter; id = id; fence = f.id } ∷ [] else [])

-- The events of all fences, in their order.
abbrev pub crossings_of : ℕ → ℕ → Option Point → Option Point → List Fence → List Event
crossings_of at id before after fences = flat_map (crossing_of at id before after) fences

-- The events, if an object goes from one position to another. There may be no object.
abbrev pub crossings_by : ℕ → Option ℕ → Option Point → Option Point → List Fence → List Event
crossings_by at None before after fences = []
crossings_by at (Some id) before after fences = crossings_of at id before after fences

-- The events of the cell with this number, which comes after this world.
abbrev pub cell_crossings : ℕ → World → Cell → List Fence → List Event
cell_crossings at world c fences = crossings_by at (object_of c) (place_in world (object_of c)) (place_in (world_behind world c) (object_of c)) fences

-- The crossings of cells, from a world and the number of the first cell on.
abbrev pub crossings_from : ℕ → World → List Cell → List Fence → List Event
crossings_from at world [] fences = []
crossings_from at world (c ∷ cells) fences = cell_crossings at world c fences ++ crossings_from (at + 1) (world_behind world c) cells fences

-- The crossings of the cells of a log.
abbrev pub crossings : List Cell → List Fence → List Event
crossings cells fences = crossings_from 0 [] cells fences

-- What a walk returns of the next cell after these. The first of these has the number `first` and comes after this
-- world.
pub record IsNextFrom (first : ℕ) (world : World) (cells : List Cell) (walked : Walked) : Type 0 where
  pub at : walked.at ≡ first + length cells
  pub before : walked.before ≡ place_in (world_after_cells world cells) (object_of walked.cell)
  pub after : walked.after ≡ place_in (world_behind (world_after_cells world cells) walked.cell) (object_of walked.cell)
