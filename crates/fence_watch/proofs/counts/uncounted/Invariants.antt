use Rattle.std.proofs.Common.{◌≡◌, map, take}
use Rattle.fence_watch.specs.Counts.{uncounted}
use Rattle.fence_watch.proofs.counts.uncounted.Given as goal

abbrev pub invariant-loop-fence : goal.invariant-loop-fence
invariant-loop-fence l = l.counts.items ≡ map uncounted (take l.fence-index l.fences)
