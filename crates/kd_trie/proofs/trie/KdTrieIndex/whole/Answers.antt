use Rattle.std.proofs.Common.{[], arith, sym, subst, ◌≤◌}
use Rattle.index_layer.specs.Leaves.{AreLeaves}
use Rattle.index_layer.proofs.LeafChanges.{AreLeaves-one_leaf}
use Rattle.bit_trie.specs.Tries.{Trie, height, leaves_under}
use Rattle.kd_trie.proofs.trie.KdTrieIndex.whole.Goals as goal

pub invariant_of-result : goal.invariant_of-result
invariant_of-result c = record {
  short = subst (λ (t : Trie). height t ≤ 64) (sym c.in_ok-tree.ensures) (omega arith);
  are_leaves = subst (λ (t : Trie). AreLeaves (leaves_under [] t)) (sym c.in_ok-tree.ensures) (AreLeaves-one_leaf c.args.bucket.value c.in_order.ensures);
}
