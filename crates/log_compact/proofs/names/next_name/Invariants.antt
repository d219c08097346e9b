use Rattle.std.proofs.Common.{◌≡◌, length}
use Rattle.log_compact.specs.Walk.{names_left}
use Rattle.log_compact.proofs.names.next_name.Given as goal

-- The same names are left.
abbrev pub invariant-leaves : goal.invariant-leaves
invariant-leaves l = names_left l.width l.leaves l.least ≡ names_left l.width l.left l.from

abbrev pub decreases-leaves : goal.decreases-leaves
decreases-leaves l = length l.left
