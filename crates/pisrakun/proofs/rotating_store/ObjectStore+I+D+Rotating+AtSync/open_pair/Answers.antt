use Rattle.std.proofs.Common.{true, inl}
use Rattle.store_file.proofs.RefusedFacts.{either-opened, either-refused}
use Rattle.pisrakun.proofs.Paired.{refuses-rotating}
use Rattle.pisrakun.proofs.rotating_store.ObjectStore+I+D+Rotating+AtSync.open_pair.Goals as goal

pub returns-in-Ok-clause-refused : goal.returns-in-Ok-clause-refused
returns-in-Ok-clause-refused g c =
    let drive = g.D.LogDisk.drive in
    let w = g.I.Index.WIDTH in
    let opened = c.in-Ok.opened in
    refuses-rotating drive w c.args.bucket c.args.first_file.now c.args.second_file.now c.args.first c.args.second true opened.which opened.store opened.pass opened.points opened.latest opened.records opened.spare c.in-Ok.ensures.opened
    (either-opened drive w c.args.bucket c.args.first_file.now c.args.second_file.now c.args.first c.args.second opened tt c.in-Ok.ensures.refused) c.with_second.result c.with_second.ensures.back

pub returns-in-Err-clause-refused : goal.returns-in-Err-clause-refused
returns-in-Err-clause-refused g c =
    inl (either-refused g.D.LogDisk.drive g.I.Index.WIDTH c.args.bucket c.args.first_file.now c.args.second_file.now c.args.first c.args.second c.in-Err.refused c.in-Err.ensures.refused)
