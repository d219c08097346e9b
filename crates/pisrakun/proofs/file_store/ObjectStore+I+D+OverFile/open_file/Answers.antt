use Rattle.store_file.proofs.RefusedFacts.{file-opened, file-refused}
use Rattle.pisrakun.proofs.file_store.ObjectStore+I+D+OverFile.open_file.Goals as goal

pub returns-in-Ok-clause-refused : goal.returns-in-Ok-clause-refused
returns-in-Ok-clause-refused g c = file-opened g.D.LogDisk.drive g.I.Index.WIDTH c.args.bucket c.args.file.now c.args.disk c.in-Ok.opened c.opened_file.result c.in-Ok.ensures.refused

pub returns-in-Err-clause-refused : goal.returns-in-Err-clause-refused
returns-in-Err-clause-refused g c = file-refused g.D.LogDisk.drive g.I.Index.WIDTH c.args.bucket c.args.file.now c.args.disk c.in-Err.refused c.in-Err.ensures.refused
