use Rattle.std.proofs.Common.{◌≡◌, ◌≤◌, ◌++◌, length, vec_capacity}
use Rattle.recovery.specs.LeafMap.{names_of}
use Rattle.recovery.proofs.leaf_map.LeafMap.names_in.Given as goal

abbrev pub invariant-loop-leaf : goal.invariant-loop-leaf
invariant-loop-leaf l = (l.room.items ++ names_of l.leaf-iterator ≡ names_of l.fn.self) × (length (names_of l.fn.self) ≤ vec_capacity l.room)
