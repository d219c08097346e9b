use Rattle.quad_trie.proofs.rows.+pass_on.Given as goal

abbrev pub decreases-pass_on : goal.decreases-pass_on
decreases-pass_on g l = l.left
