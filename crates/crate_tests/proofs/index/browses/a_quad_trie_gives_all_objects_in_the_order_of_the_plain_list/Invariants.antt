use Rattle.crate_tests.proofs.index.browses.a_quad_trie_gives_all_objects_in_the_order_of_the_plain_list.Given as goal

abbrev pub ghosts-browses_as_the_plain_list_ranks : goal.ghosts-browses_as_the_plain_list_ranks
ghosts-browses_as_the_plain_list_ranks g a = record { name = a.blank.name; parts = a.blank.parts }
