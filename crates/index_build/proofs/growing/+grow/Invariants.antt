use Rattle.std.proofs.Common.{◌-◌, length}
use Rattle.index_build.proofs.GrowingLeaves.{IsGrowing}
use Rattle.index_build.proofs.growing.+grow.Given as goal

-- how many bits a name may have more
abbrev pub decreases-grow : goal.decreases-grow
decreases-grow g l = 64 - length l.name.now

abbrev pub invariant-loop-place : goal.invariant-loop-place
invariant-loop-place g l = IsGrowing g.I.Index.WIDTH l.whole.base l.leaves l.name l.fn.growing.done (g.I.Index.leaves l.fn.growing.index) l.place l.growing.done (g.I.Index.leaves l.growing.index)
