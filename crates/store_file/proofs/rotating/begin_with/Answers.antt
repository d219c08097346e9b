use Rattle.store_file.proofs.RotateFacts.{begins-fresh}
use Rattle.store_file.proofs.rotating.begin_with.Goals as goal

pub returns-in-Ok-clause-begun : goal.returns-in-Ok-clause-begun
returns-in-Ok-clause-begun g c =
    let opened = c.in-Ok.opened in
    let by = c.in-Ok.ensures in
    begins-fresh g.D.LogDisk.drive g.met.D.LogDisk.keeps_laws c.WIDTH-width.result g.I.Index.WIDTH c.WIDTH-width.ensures c.args.spare c.in-Some.seen opened.seen c.in-Some.ensures.2 by.seen
    opened.start.value opened.log by.start by.log.0 by.log.1 by.stands by.ok by.any_moment by.state
