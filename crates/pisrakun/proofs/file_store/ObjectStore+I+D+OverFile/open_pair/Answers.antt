use Rattle.store_file.proofs.RefusedFacts.{either-opened, either-refused}
use Rattle.pisrakun.proofs.file_store.ObjectStore+I+D+OverFile.open_pair.Goals as goal

pub returns-in-Ok-clause-refused : goal.returns-in-Ok-clause-refused
returns-in-Ok-clause-refused g c =
    either-opened g.D.LogDisk.drive g.I.Index.WIDTH c.args.bucket c.args.first_file.now c.args.second_file.now c.args.first c.args.second c.in-Ok.opened c.opened_pair.result c.in-Ok.ensures.refused

pub returns-in-Err-clause-refused : goal.returns-in-Err-clause-refused
returns-in-Err-clause-refused g c =
    either-refused g.D.LogDisk.drive g.I.Index.WIDTH c.args.bucket c.args.first_file.now c.args.second_file.now c.args.first c.args.second c.in-Err.refused c.in-Err.ensures.refused
