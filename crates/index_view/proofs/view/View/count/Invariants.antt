use Rattle.index_view.proofs.view.View.count.Given as goal

abbrev pub ghosts-count_over : goal.ghosts-count_over
ghosts-count_over g a = record { name = a.blank.name; parts = a.blank.parts }
