use Rattle.std.proofs.Common.{◌≡◌, ◌≤◌, ◌+◌, length, drop}
use Rattle.fence_watch.specs.Fences.{inside_of}
use Rattle.fence_watch.proofs.counts.number_inside.Given as goal

abbrev pub invariant-loop-member : goal.invariant-loop-member
invariant-loop-member l = record {
  counted : l.number + length (inside_of (drop l.member-index l.members) l.fence) ≡ length (inside_of l.members l.fence);
  few : l.number ≤ l.member-index;
}
