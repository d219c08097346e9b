use Rattle.std.proofs.Common.{List}
use Rattle.cell_format.specs.declared.cell.Cell.{Cell}
use Rattle.recovery.specs.Walks.{ComesTo}
use Rattle.fence_watch.specs.declared.fences.Fence.{Fence}
use Rattle.fence_watch.specs.Watches.{FollowsCells}
use Rattle.crate_tests.proofs.fences.go_along.Given as goal

-- The cells of the walk are those that the watch followed.
abbrev pub invariant-loop : goal.invariant-loop
invariant-loop g l =
    (cells : List Cell) × (fences : List Fence) × ComesTo 1 9 cells (g.D.LogDisk.drive l.walk.disk) l.walk × FollowsCells cells fences l.watch
