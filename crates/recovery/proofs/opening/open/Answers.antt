use Rattle.std.proofs.Common.{Some, sym, subst}
use Rattle.recovery.specs.Opening.{OpensWanted}
use Rattle.recovery.proofs.opening.open.Goals as goal

pub returns-in-Ok-clause-opened : goal.returns-in-Ok-clause-opened
returns-in-Ok-clause-opened g c =
    let drive = g.D.LogDisk.drive in
    let log = c.in-Ok.log in
    let opened = c.in-Ok.ensures.opened in
    subst (λ w. OpensWanted (Some c.args.width) c.args.most (drive c.args.disk) (drive log.opened.log.disk) w log.opened.seen) (sym opened.log.fits) opened
