use Rattle.pisrakun.proofs.file_store.ObjectStore+I+D+OverFile.resume.Goals as goal

pub new-requires-clause-start : goal.new-requires-clause-start
new-requires-clause-start g c = c.requires.starts
