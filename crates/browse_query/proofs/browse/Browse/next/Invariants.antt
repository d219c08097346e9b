use Rattle.browse_query.proofs.browse.Browse.next.Given as goal

abbrev pub ghosts-next_over : goal.ghosts-next_over
ghosts-next_over g a = record { name = a.blank.name; parts = a.blank.parts }
