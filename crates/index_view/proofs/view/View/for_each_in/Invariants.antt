use Rattle.index_view.proofs.view.View.for_each_in.Given as goal

abbrev pub ghosts-for_each_over : goal.ghosts-for_each_over
ghosts-for_each_over g a = record { name = a.blank.name; parts = a.blank.parts }
