use Rattle.play_run.proofs.output.summary_of.Given as goal

abbrev pub ghosts-count_objects : goal.ghosts-count_objects
ghosts-count_objects g a = record { name = a.blank.name; parts = a.blank.parts }
