use Rattle.store_file.proofs.rotating.finish.Goals as goal

pub new-requires-clause-start : goal.new-requires-clause-start
new-requires-clause-start g c = c.requires.starts
