use Rattle.std.proofs.Common.{◌≡◌, ◌++◌, length}
use Rattle.point_table.specs.Crowds.{crowded_of}
use Rattle.point_table.proofs.table.built.crowded_names.Given as goal

-- the names so far, and then those of the leaves that are left, are all
abbrev pub invariant-loop-leaf : goal.invariant-loop-leaf
invariant-loop-leaf g l = l.names.items ++ crowded_of g.I.Index.WIDTH l.size l.walk ≡ crowded_of g.I.Index.WIDTH l.size (g.I.Index.leaves l.index)

abbrev pub decreases-loop-leaf : goal.decreases-loop-leaf
decreases-loop-leaf g l = length l.walk
