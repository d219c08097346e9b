use Rattle.std.proofs.Common.{◌≡◌, ◌∷◌, take}
use Rattle.fence_watch.specs.Slabs.{edges_of}
use Rattle.fence_watch.proofs.slabs.edges_of.Given as goal

abbrev pub invariant-loop-span : goal.invariant-loop-span
invariant-loop-span l = l.edges.items ≡ 0 ∷ edges_of (take l.span-index l.spans)
