use Rattle.std.proofs.Common.{◌-◌, length}
use Rattle.point_table.proofs.SplitOn.{IsSplitting}
use Rattle.point_table.proofs.table.anew.+split_on.Given as goal

-- how many bits a name may have more
abbrev pub decreases-split_on : goal.decreases-split_on
decreases-split_on g l = 64 - length l.name.now

abbrev pub invariant-loop-place : goal.invariant-loop-place
invariant-loop-place g l = IsSplitting g.I.Index.WIDTH l.size l.whole.base l.name (g.I.Index.leaves l.fn.index) l.place (g.I.Index.leaves l.index)
