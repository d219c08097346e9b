use Rattle.std.proofs.Common.{◌≡◌, map, take}
use Rattle.fence_watch.specs.Watches.{guard_in}
use Rattle.fence_watch.specs.Guards.{guards_of}
use Rattle.fence_watch.proofs.guards.guard_over.Given as goal

abbrev pub invariant-loop-fence : goal.invariant-loop-fence
invariant-loop-fence l = guards_of l.guards.items ≡ map (guard_in l.members) (take l.fence-index l.fences)
