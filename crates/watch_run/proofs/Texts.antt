-- What a tally keeps, as text.
use Rattle.std.proofs.Common.{◌≡◌, ℕ, List, [], ◌∷◌, ◌++◌, map, refl, ◌∙◌, ap}
use Rattle.std.specs.List.{flat_map}
use Rattle.cell_format.specs.declared.cell.Cell.{Cell}
use Rattle.plain_list.specs.World.{World}
use Rattle.log_state.specs.Recovers.{state_of}
use Rattle.fence_watch.specs.declared.counts.FenceCount.{FenceCount}
use Rattle.fence_watch.specs.declared.fences.Fence.{Fence}
use Rattle.fence_watch.specs.Tallies.{TalliesCells, TallyView, count_in}
use Rattle.fence_watch.proofs.Tallying.{counts-told}
use Rattle.watch_run.specs.WatchLines.{end_line, event_line, watch_title, watched_text}
use Rattle.watch_run.specs.inside.Lines.{counted_line, view_text}

lines-counted : (world : World) (fences : List Fence) → flat_map counted_line (map (count_in world) fences) ≡ flat_map (end_line world) fences
lines-counted world [] = refl
lines-counted world (f ∷ fences) = ap (λ (l : List ℕ). end_line world f ++ l) (lines-counted world fences)

-- The lines of a tally of all cells are those of the cells.
pub text-tallied : (w : ℕ) (cells : List Cell) (fences : List Fence) (v : TallyView) → TalliesCells [] cells fences v → view_text v ≡ watched_text fences w cells
unfolding watched_text
text-tallied w cells fences v tallies =
    let ends : flat_map counted_line v.counts ≡ flat_map (end_line (state_of w cells).world) fences =
    ap (λ (counts : List FenceCount). flat_map counted_line counts) (counts-told w [] cells fences v tallies) ∙ lines-counted (state_of w cells).world fences in
    λ i. watch_title ++ flat_map event_line (tallies.events i) ++ ends i
