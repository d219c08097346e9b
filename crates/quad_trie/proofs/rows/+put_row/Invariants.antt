use Rattle.quad_trie.proofs.rows.+put_row.Given as goal

abbrev pub decreases-put_row : goal.decreases-put_row
decreases-put_row g l = l.left
