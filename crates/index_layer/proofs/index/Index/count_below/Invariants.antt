use Rattle.std.proofs.Common.{◌-◌}
use Rattle.index_layer.proofs.CountedLeaves.{IsCounting}
use Rattle.index_layer.proofs.index.Index.count_below.Given as goal

abbrev pub invariant-leaves : goal.invariant-leaves
invariant-leaves g l = IsCounting l.name l.last l.key l.count (g.Self.Index.leaves l.self)

abbrev pub decreases-leaves : goal.decreases-leaves
decreases-leaves g l = l.last - l.key
