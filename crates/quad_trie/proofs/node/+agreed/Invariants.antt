use Rattle.quad_trie.proofs.node.+agreed.Given as goal

abbrev pub decreases-agreed : goal.decreases-agreed
decreases-agreed l = l.left
