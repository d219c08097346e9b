use Rattle.index_view.proofs.view.View.nearest.Given as goal

abbrev pub ghosts-nearest_over : goal.ghosts-nearest_over
ghosts-nearest_over g a = record { name = a.blank.name; parts = a.blank.parts }

abbrev pub ghosts-many_over : goal.ghosts-many_over
ghosts-many_over g a = record { name = a.blank.name; parts = a.blank.parts }
