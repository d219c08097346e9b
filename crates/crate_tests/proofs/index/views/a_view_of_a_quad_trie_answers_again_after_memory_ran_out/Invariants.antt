use Rattle.crate_tests.proofs.index.views.a_view_of_a_quad_trie_answers_again_after_memory_ran_out.Given as goal

abbrev pub ghosts-answers_again : goal.ghosts-answers_again
ghosts-answers_again g a = record { name = a.blank.name; parts = a.blank.parts }
