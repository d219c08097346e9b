use Rattle.std.proofs.Common.{◌≡◌, drop}
use Rattle.fence_watch.specs.Guards.{guards_of}
use Rattle.fence_watch.specs.Watches.{inside_at}
use Rattle.fence_watch.proofs.watch.Watch.inside.Given as goal

abbrev pub invariant-loop-guard : goal.invariant-loop-guard
invariant-loop-guard l = inside_at l.fence l.self.guards ≡ inside_at l.fence (guards_of (drop l.guard-index l.guard-items))
