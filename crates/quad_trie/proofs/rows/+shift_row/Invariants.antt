use Rattle.quad_trie.proofs.rows.+shift_row.Given as goal

abbrev pub decreases-shift_row : goal.decreases-shift_row
decreases-shift_row g l = l.left
