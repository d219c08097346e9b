use Rattle.std.proofs.Common.{◌≡◌, ◌++◌}
use Rattle.point_table.proofs.NetSteps.{new_of}
use Rattle.point_table.proofs.table.net.new_ones.Given as goal

-- the new objects so far, and then those of the changes that are left, are all
abbrev pub invariant-loop-id : goal.invariant-loop-id
invariant-loop-id l = l.new.items ++ new_of l.members l.id-iterator ≡ new_of l.members l.left.entries
