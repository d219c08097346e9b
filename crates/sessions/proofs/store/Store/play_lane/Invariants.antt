use Rattle.sessions.proofs.store.Store.play_lane.Given as goal

abbrev pub ghosts-play_rows : goal.ghosts-play_rows
ghosts-play_rows g a = record { name = a.blank.name; parts = a.blank.parts }
