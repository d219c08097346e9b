use Rattle.pisrakun.proofs.object_store.ObjectStore.ask.Given as goal

abbrev pub ghosts-ask_over : goal.ghosts-ask_over
ghosts-ask_over g a = record { name = a.blank.name; parts = a.blank.parts }
