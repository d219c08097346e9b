use Rattle.quad_trie.proofs.rows.+pass_row.Given as goal

abbrev pub decreases-pass_row : goal.decreases-pass_row
decreases-pass_row g l = l.left
