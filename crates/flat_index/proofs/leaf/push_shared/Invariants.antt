use Rattle.std.proofs.Common.{◌≡◌, ◌++◌, drop}
use Rattle.flat_index.specs.Seen.{seen}
use Rattle.flat_index.proofs.leaf.push_shared.Given as goal

abbrev pub invariant-loop-leaf : goal.invariant-loop-leaf
invariant-loop-leaf l = seen l.into.items ++ seen (drop l.leaf-index l.leaves) ≡ seen l.fn.into.items ++ seen l.leaves
