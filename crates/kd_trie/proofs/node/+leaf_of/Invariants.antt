use Rattle.kd_trie.proofs.node.+leaf_of.Given as goal

abbrev pub decreases-leaf_of : goal.decreases-leaf_of
decreases-leaf_of l = l.left
