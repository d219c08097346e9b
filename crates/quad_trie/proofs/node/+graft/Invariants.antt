use Rattle.quad_trie.proofs.node.+graft.Given as goal

abbrev pub decreases-graft : goal.decreases-graft
decreases-graft g l = l.left
