use Rattle.std.proofs.Common.{inl, true, arith}
use Rattle.disk_trait.proofs.Calls.{attached-still}
use Rattle.run_ends.proofs.AttachFacts.{attaches-one}
use Rattle.log_run.proofs.DriveSteps.{makes-after, leaves-attached, leaves-made, cause-attached, cause-made, calls-unmade, calm-made}
use Rattle.log_run.proofs.making.make_in.Goals as goal

pub returns-in-Ok-clause-made : goal.returns-in-Ok-clause-made
returns-in-Ok-clause-made g c = makes-after c.args.width (g.D.LogDisk.drive c.args.disk) (g.D.LogDisk.drive c.attach.new.disk) (g.D.LogDisk.drive c.in-Ok.disk) c.in_default.ensures.attached.stays c.in_default.ensures.attached.calm c.in-Ok.ensures.made

pub returns-in-Ok-clause-attached : goal.returns-in-Ok-clause-attached
returns-in-Ok-clause-attached g c = attached-still c.args.file.now true (g.D.LogDisk.drive c.args.disk) (g.D.LogDisk.drive c.attach.new.disk) (g.D.LogDisk.drive c.in-Ok.disk) c.in_default.ensures.attached.named c.in-Ok.ensures.small.file

pub returns-in-Err-init-clause-attached : goal.returns-in-Err-init-clause-attached
returns-in-Err-init-clause-attached g c =
    attaches-one c.args.file.now true _ _ _ (attached-still c.args.file.now true (g.D.LogDisk.drive c.args.disk) (g.D.LogDisk.drive c.attach.new.disk) (g.D.LogDisk.drive c.in-Err-init.field-0.disk) c.in_default.ensures.attached.named c.in-Err-init.ensures.small.file)

pub returns-in-Err-clause-cause : goal.returns-in-Err-clause-cause
returns-in-Err-clause-cause g c = cause-attached c.args.file.now true _ _ c.in-Err.why c.in-Err.ensures.refused

pub returns-in-Err-clause-attached : goal.returns-in-Err-clause-attached
returns-in-Err-clause-attached g c = c.in-Err.ensures.refused.attached

pub returns-in-Err-clause-calm : goal.returns-in-Err-clause-calm
returns-in-Err-clause-calm g c = c.in-Err.ensures.refused.calm

pub returns-in-Err-clause-leaves : goal.returns-in-Err-clause-leaves
returns-in-Err-clause-leaves g c = leaves-attached _ _ (g.met.D.LogDisk.keeps_laws c.args.disk) c.in-Err.ensures.refused.stays c.in-Err.ensures.refused.later

pub returns-in-Ok-clause-leaves : goal.returns-in-Ok-clause-leaves
returns-in-Ok-clause-leaves g c = leaves-made _ _ _ (g.met.D.LogDisk.keeps_laws c.args.disk) c.in_default.ensures.attached.stays (omega (arith, c.in_default.ensures.attached.calm)) c.in-Ok.ensures.small (inl (record { count = 2; calls = c.in-Ok.ensures.made.calls }))

pub returns-in-Err-init-clause-cause : goal.returns-in-Err-init-clause-cause
returns-in-Err-init-clause-cause g c =
    rw c.making_refusal-why.ensures (cause-made _ _ _ c.in-Err-init.field-0.cause c.in_default.ensures.attached.stays (omega (arith, c.in_default.ensures.attached.calm)) c.in-Err-init.ensures.refused)

pub returns-in-Err-init-clause-calm : goal.returns-in-Err-init-clause-calm
returns-in-Err-init-clause-calm g c = rw c.making_refusal-why.ensures (calm-made (g.D.LogDisk.drive c.args.disk) (g.D.LogDisk.drive c.attach.new.disk) (g.D.LogDisk.drive c.in-Err-init.field-0.disk) c.in-Err-init.field-0.cause c.in_default.ensures.attached.calm c.in-Err-init.ensures.refused)

pub returns-in-Err-init-clause-leaves : goal.returns-in-Err-init-clause-leaves
returns-in-Err-init-clause-leaves g c = leaves-made _ _ _ (g.met.D.LogDisk.keeps_laws c.args.disk) c.in_default.ensures.attached.stays (omega (arith, c.in_default.ensures.attached.calm)) c.in-Err-init.ensures.small (calls-unmade _ _ c.in-Err-init.field-0.cause c.in-Err-init.ensures.refused)
