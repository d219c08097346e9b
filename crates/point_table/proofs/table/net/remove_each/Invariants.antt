use Rattle.std.proofs.Common.{take}
use Rattle.point_table.specs.Nets.{Removes}
use Rattle.point_table.proofs.table.net.remove_each.Given as goal

-- the first objects are gone
abbrev pub invariant-loop-member : goal.invariant-loop-member
invariant-loop-member l = Removes (take l.member-index l.new) l.fn.members l.members
