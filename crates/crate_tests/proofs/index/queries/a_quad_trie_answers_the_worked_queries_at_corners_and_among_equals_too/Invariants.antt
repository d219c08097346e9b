use Rattle.crate_tests.proofs.index.queries.a_quad_trie_answers_the_worked_queries_at_corners_and_among_equals_too.Given as goal

abbrev pub ghosts-answers_the_worked_queries : goal.ghosts-answers_the_worked_queries
ghosts-answers_the_worked_queries g a = record { name = a.blank.name; parts = a.blank.parts }
