use Rattle.std.proofs.Common.{◌≡◌}
use Rattle.log_compact.specs.Walk.{left_at}
use Rattle.log_compact.proofs.names.next_at.Given as goal

-- No name came so far.
abbrev pub invariant-loop-len : goal.invariant-loop-len
invariant-loop-len l = left_at l.width l.leaf l.least ≡ left_at l.width l.leaf l.len
