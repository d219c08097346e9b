use Rattle.std.proofs.Common.{◌≡◌, ◌++◌, length}
use Rattle.index_layer.specs.Leaves.{names_of}
use Rattle.point_table.proofs.table.anew.leaf_names.Given as goal

-- the names so far, and then those of the leaves that are left, are all
abbrev pub invariant-loop-name : goal.invariant-loop-name
invariant-loop-name g l = l.names.items ++ names_of l.walk ≡ names_of (g.I.Index.leaves l.index)

abbrev pub decreases-loop-name : goal.decreases-loop-name
decreases-loop-name g l = length l.walk
