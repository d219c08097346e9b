use Rattle.std.proofs.Common.{subst}
use Rattle.recovery.specs.Making.{RefusesInit}
use Rattle.store_file.proofs.FileFacts.{ready-made, ready-in-use, init-failed}
use Rattle.store_file.proofs.files.ready_log.Goals as goal

pub returns-in-Ok-clause-ready : goal.returns-in-Ok-clause-ready
returns-in-Ok-clause-ready g c =
    ready-made c.args.width c.args.file.now _ _ _ (g.met.D.LogDisk.keeps_laws c.args.disk) c.attach.ensures.stays c.in_default.ensures.cause.same c.in_default.ensures.cause.named
    c.in-Ok.ensures.small c.in-Ok.ensures.made

pub returns-in-InUse-clause-ready : goal.returns-in-InUse-clause-ready
returns-in-InUse-clause-ready g c =
    ready-in-use c.args.width c.args.file.now _ _ _ (g.met.D.LogDisk.keeps_laws c.args.disk) c.attach.ensures.stays c.in_default.ensures.cause.same c.in_default.ensures.cause.named
    c.in-Err-init.ensures.small c.in-InUse.len (subst (RefusesInit (g.D.LogDisk.drive c.attach.new.self) (g.D.LogDisk.drive c.in-Err-init.field-0.disk)) c.in-InUse.is c.in-Err-init.ensures.refused)

pub returns-in-Disk-clause-refused : goal.returns-in-Disk-clause-refused
returns-in-Disk-clause-refused g c =
    init-failed c.args.width c.args.file.now _ _ _ (g.met.D.LogDisk.keeps_laws c.args.disk) c.attach.ensures.stays c.in_default.ensures.cause.same c.in_default.ensures.cause.named
    c.in-Err-init.ensures.small (subst (RefusesInit (g.D.LogDisk.drive c.attach.new.self) (g.D.LogDisk.drive c.in-Err-init.field-0.disk)) c.in-Disk.is c.in-Err-init.ensures.refused)
