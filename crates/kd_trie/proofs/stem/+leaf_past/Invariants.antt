use Rattle.kd_trie.proofs.stem.+leaf_past.Given as goal

abbrev pub decreases-leaf_past : goal.decreases-leaf_past
decreases-leaf_past l = l.left
