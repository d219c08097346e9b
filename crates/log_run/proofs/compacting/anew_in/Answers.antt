use Rattle.std.proofs.Common.{inl, arith}
use Rattle.log_run.specs.Compacting.{anew}
use Rattle.log_run.proofs.AnewEnds.{calls-refused, compacted-after, leaves-attached, leaves-written}
use Rattle.log_run.proofs.compacting.anew_in.Goals as goal

pub returns-in-Ok-clause-made : goal.returns-in-Ok-clause-made
returns-in-Ok-clause-made g c =
    record { made = compacted-after c.args.found.now.width (anew c.args.found.now.width c.args.found.now.seen.world c.args.found.now.seen.leaves) (g.D.LogDisk.drive c.args.other) (g.D.LogDisk.drive c.attach.new.disk) (g.D.LogDisk.drive c.in-Ok.other) (g.met.D.LogDisk.keeps_laws c.args.other) c.in_default.ensures.attached.stays c.in_default.ensures.attached.calm c.in-Ok.ensures.ok; state = c.in-Ok.ensures.state }

pub returns-in-Ok-clause-leaves : goal.returns-in-Ok-clause-leaves
returns-in-Ok-clause-leaves g c =
    leaves-written _ _ _ _ _ (g.met.D.LogDisk.keeps_laws c.args.other) c.in_default.ensures.attached.stays (omega (arith, c.in_default.ensures.attached.calm)) c.in-Ok.ensures.any_moment (inl c.in-Ok.ensures.ok.calls)

pub returns-in-Err-compact-clause-leaves : goal.returns-in-Err-compact-clause-leaves
returns-in-Err-compact-clause-leaves g c =
    leaves-written _ _ _ _ _ (g.met.D.LogDisk.keeps_laws c.args.other) c.in_default.ensures.attached.stays (omega (arith, c.in_default.ensures.attached.calm)) c.in-Err-compact.ensures.any_moment
    (calls-refused _ _ c.in-Err-compact.field-0.cause c.in-Err-compact.ensures.refused)

pub returns-in-Err-clause-leaves : goal.returns-in-Err-clause-leaves
returns-in-Err-clause-leaves g c =
    let drive = g.D.LogDisk.drive in
    leaves-attached _ _ (drive c.args.other) (drive c.attach.new.disk) (drive c.attach.new.disk) (g.met.D.LogDisk.keeps_laws c.args.other) c.in-Err.ensures.refused.stays c.in-Err.ensures.refused.later
