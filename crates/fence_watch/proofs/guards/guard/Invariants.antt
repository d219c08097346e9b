use Rattle.std.proofs.Common.{◌≡◌, [], map, take}
use Rattle.fence_watch.specs.declared.fences.Fence.{Fence}
use Rattle.fence_watch.specs.Watches.{Guard}
use Rattle.fence_watch.specs.Guards.{AllRising, guards_of}
use Rattle.fence_watch.proofs.guards.guard.Given as goal

abbrev unguarded : Fence → Guard
unguarded f = record { fence = f; inside = [] }

abbrev pub invariant-loop-fence : goal.invariant-loop-fence
invariant-loop-fence l = record {
  empty : guards_of l.guards.items ≡ map unguarded (take l.fence-index l.fences);
  rising : AllRising (guards_of l.guards.items);
}
