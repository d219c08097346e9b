use Rattle.std.proofs.Common.{◌≡◌, map, take}
use Rattle.fence_watch.specs.Tallies.{count_in}
use Rattle.fence_watch.proofs.counts.counted.Given as goal

abbrev pub invariant-loop-fence : goal.invariant-loop-fence
invariant-loop-fence l = l.counts.items ≡ map (count_in l.members) (take l.fence-index l.fences)
