-- A worked walk: an object is put into one fence, moves to another one, and is removed.
use Rattle.std.specs.Prelude.{◌≡◌, List, [], ◌∷◌}
use Rattle.std.proofs.Common.{refl}
use Rattle.zorder.specs.Examples.{pt}
use Rattle.cell_format.specs.declared.cell.Cell.{Cell}
use Rattle.cell_format.specs.declared.cell.Cell.TheVariants as cell
use Rattle.fence_watch.specs.declared.fences.Fence.{Fence}
use Rattle.fence_watch.specs.declared.fences.Crossing.TheVariants.{Enter, Leave}
use Rattle.fence_watch.specs.Fences.{inside_of}
use Rattle.fence_watch.specs.Crossings.{crossings, crossings_from, world_after_cells}

abbrev cells : List Cell
cells = cell.Put 7 (pt 3 5) 10 ∷ cell.Move 7 (pt 8 8) 20 ∷ cell.Remove 7 ∷ []

abbrev first : Fence
first = record { id = 1; region = record { lo = pt 0 0; hi = pt 5 5 } }

abbrev second : Fence
second = record { id = 2; region = record { lo = pt 4 4; hi = pt 9 9 } }

crossed : crossings cells (first ∷ second ∷ [])
    ≡ record { at = 0; crossing = Enter; id = 7; fence = 1 } ∷ record { at = 1; crossing = Leave; id = 7; fence = 1 }
    ∷ record { at = 1; crossing = Enter; id = 7; fence = 2 } ∷ record { at = 2; crossing = Leave; id = 7; fence = 2 } ∷ []
crossed = refl

none_inside : inside_of (world_after_cells [] cells) first ≡ []
none_inside = refl

-- After the move the object is inside the second fence alone.
one_inside : inside_of (world_after_cells [] (cell.Put 7 (pt 3 5) 10 ∷ cell.Move 7 (pt 8 8) 20 ∷ [])) second ≡ 7 ∷ []
one_inside = refl

-- A cell of a split moves no object, but has a number.
split_between : crossings (cell.Begin 1 [] ∷ cell.Put 7 (pt 3 5) 10 ∷ []) (first ∷ []) ≡ record { at = 1; crossing = Enter; id = 7; fence = 1 } ∷ []
split_between = refl

-- From a world on, with a number of its own.
goes_on : crossings_from 40 (record { id = 7; at = pt 3 5; moment = 10 } ∷ []) (cell.Move 7 (pt 8 8) 20 ∷ []) (first ∷ [])
    ≡ record { at = 40; crossing = Leave; id = 7; fence = 1 } ∷ []
goes_on = refl
