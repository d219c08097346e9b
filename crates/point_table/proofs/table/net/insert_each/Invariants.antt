use Rattle.std.proofs.Common.{take}
use Rattle.point_table.specs.Nets.{Adds}
use Rattle.point_table.proofs.table.net.insert_each.Given as goal

-- the first objects are there
abbrev pub invariant-loop-member : goal.invariant-loop-member
invariant-loop-member l = Adds (take l.member-index l.new) l.fn.members l.members
