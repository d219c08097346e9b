-- A worked text: an object is put into one fence, moves to another one, and is removed.
use Rattle.std.specs.Prelude.{◌≡◌, [], ◌∷◌, codes}
use Rattle.std.proofs.Common.{refl}
use Rattle.std.specs.Fmt.{digits}
use Rattle.zorder.specs.Examples.{pt}
use Rattle.cell_format.specs.declared.cell.Cell.TheVariants as cell
use Rattle.fence_watch.specs.declared.fences.Fence.{Fence}
use Rattle.watch_run.specs.WatchLines.{watched_text}

abbrev first : Fence
first = record { id = 1; region = record { lo = pt 0 0; hi = pt 5 5 } }

abbrev second : Fence
second = record { id = 2; region = record { lo = pt 4 4; hi = pt 9 9 } }

passes_through : watched_text (first ∷ second ∷ []) 1 (cell.Put 7 (pt 3 5) 10 ∷ cell.Move 7 (pt 8 8) 11 ∷ cell.Remove 7 ∷ [])
    ≡ codes "cell,event,id,fence\n0,enter,7,1\n1,leave,7,1\n1,enter,7,2\n2,leave,7,2\nend,inside,0,1\nend,inside,0,2\n"
unfolding watched_text digits
passes_through = refl

-- The objects that are inside at the end are counted. A cell of a split has a number too.
stays_inside : watched_text (first ∷ []) 1 (cell.Begin 1 [] ∷ cell.Put 7 (pt 3 5) 10 ∷ cell.Put 9 (pt 8 8) 10 ∷ [])
    ≡ codes "cell,event,id,fence\n1,enter,7,1\nend,inside,1,1\n"
unfolding watched_text digits
stays_inside = refl
