use Rattle.std.proofs.Common.{◌≡◌, ◌++◌, drop}
use Rattle.fence_watch.specs.Fences.{inside_of}
use Rattle.fence_watch.proofs.guards.ids_inside.Given as goal

abbrev pub invariant-loop-member : goal.invariant-loop-member
invariant-loop-member l = l.ids.items ++ inside_of (drop l.member-index l.members) l.fence ≡ inside_of l.members l.fence
