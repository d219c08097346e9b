use Rattle.crate_tests.proofs.counts.a_count_takes_no_room_and_needs_no_ledger_of_its_own.Given as goal

abbrev pub ghosts-count : goal.ghosts-count
ghosts-count g a = record { name = a.blank.name; parts = a.blank.parts }
