use Rattle.crate_tests.proofs.checks.is_listed.Given as goal

abbrev pub ghosts-lists : goal.ghosts-lists
ghosts-lists a = record { name = a.blank.name; parts = a.blank.parts }
