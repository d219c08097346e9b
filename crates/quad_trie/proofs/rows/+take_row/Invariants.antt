use Rattle.quad_trie.proofs.rows.+take_row.Given as goal

abbrev pub decreases-take_row : goal.decreases-take_row
decreases-take_row g l = l.left
