use Rattle.std.proofs.Common.{Err, false, ◌∙◌, sym, subst, arith}
use Rattle.recovery.specs.declared.seen.SeenLog.{SeenLog}
use Rattle.disk_trait.proofs.Calls.{attached-still}
use Rattle.recovery.proofs.OnlyReading.{stays-trans}
use Rattle.run_ends.specs.declared.refusals.Refusal.{Refusal}
use Rattle.run_ends.specs.Limits.{most_inspected, oldest_read}
use Rattle.run_ends.proofs.AttachFacts.{attaches-one, reading-unattached}
use Rattle.log_run.specs.Checking.{IsCheckingCause, IsDecidedBy}
use Rattle.log_run.proofs.DriveSteps.{checking-after, decided-err, decided-attached, found-after, calm-read}
use Rattle.log_run.proofs.checking.find.Goals as goal

pub returns-in-Err-inspect_log-clause-cause : goal.returns-in-Err-inspect_log-clause-cause
returns-in-Err-inspect_log-clause-cause g c =
    let old = g.D.LogDisk.drive c.args.disk.now in
    let new = g.D.LogDisk.drive c.inspect_log.new.disk in
    subst (λ (why : Refusal). IsCheckingCause old new why) (sym c.log_refusal.ensures)
    (checking-after old (g.D.LogDisk.drive c.attach.new.disk) new c.inspect_log.result c.in-Err-inspect_log.fault c.in-Err-inspect_log.is c.in_default.ensures.attached.stays (omega (arith, c.in_default.ensures.attached.calm)) c.in-Err-inspect_log.ensures.refused.shows c.in-Err-inspect_log.ensures.refused.may c.inspect_log.ensures.reads)

pub returns-in-Err-inspect_log-clause-decided : goal.returns-in-Err-inspect_log-clause-decided
returns-in-Err-inspect_log-clause-decided g c =
    let old = g.D.LogDisk.drive c.args.disk.now in
    let new = g.D.LogDisk.drive c.inspect_log.new.disk in
    subst (λ (why : Refusal). IsDecidedBy {T = SeenLog} most_inspected old new (Err why)) (sym c.log_refusal.ensures)
    (decided-err old (g.D.LogDisk.drive c.attach.new.disk) new c.in-Err-inspect_log.fault c.in_default.ensures.attached.stays (omega (arith, c.in_default.ensures.attached.calm)) c.in-Err-inspect_log.ensures.refused)

pub returns-in-Ok-clause-stays : goal.returns-in-Ok-clause-stays
returns-in-Ok-clause-stays g c = stays-trans (g.D.LogDisk.drive c.args.disk.now) (g.D.LogDisk.drive c.attach.new.disk) (g.D.LogDisk.drive c.inspect_log.new.disk) c.in_default.ensures.attached.stays c.inspect_log.ensures.reads.stays

pub returns-in-Ok-clause-read : goal.returns-in-Ok-clause-read
returns-in-Ok-clause-read g c = record { attached = attached-still c.args.file.now false (g.D.LogDisk.drive c.args.disk.now) (g.D.LogDisk.drive c.attach.new.disk) (g.D.LogDisk.drive c.inspect_log.new.disk) c.in_default.ensures.attached.named c.inspect_log.ensures.reads.file; calm = c.in-Ok.ensures.reads.same ∙ c.in_default.ensures.attached.calm }

pub returns-in-Err-inspect_log-clause-stays : goal.returns-in-Err-inspect_log-clause-stays
returns-in-Err-inspect_log-clause-stays g c = stays-trans (g.D.LogDisk.drive c.args.disk.now) (g.D.LogDisk.drive c.attach.new.disk) (g.D.LogDisk.drive c.inspect_log.new.disk) c.in_default.ensures.attached.stays c.inspect_log.ensures.reads.stays

pub returns-in-Err-inspect_log-clause-read : goal.returns-in-Err-inspect_log-clause-read
returns-in-Err-inspect_log-clause-read g c =
    rw c.log_refusal.ensures (record {
      attached = attaches-one c.args.file.now false _ _ _ (attached-still c.args.file.now false (g.D.LogDisk.drive c.args.disk.now) (g.D.LogDisk.drive c.attach.new.disk) (g.D.LogDisk.drive c.inspect_log.new.disk) c.in_default.ensures.attached.named c.inspect_log.ensures.reads.file);
      calm = calm-read _ _ _ c.in-Err-inspect_log.fault c.in_default.ensures.attached.calm c.in-Err-inspect_log.ensures.reads.same;
    })

pub returns-in-Err-inspect_log-clause-later : goal.returns-in-Err-inspect_log-clause-later
returns-in-Err-inspect_log-clause-later g c = omega (arith, c.in_default.ensures.attached.calm, c.inspect_log.ensures.reads.later)

pub returns-in-Ok-clause-found : goal.returns-in-Ok-clause-found
returns-in-Ok-clause-found g c = (c.in-Ok.ensures.found.width.known, found-after c.in-Ok.found.width most_inspected _ _ c.in-Ok.found.seen c.in_default.ensures.attached.stays c.in-Ok.ensures.found.found)

pub returns-in-Ok-clause-decided : goal.returns-in-Ok-clause-decided
returns-in-Ok-clause-decided g c =
    record { exact = λ bytes fault told shown wrong calm. absurd (c.in-Ok.ensures.found.sound bytes fault (c.in_default.ensures.attached.stays.bytes ∙ told) shown wrong); whole = λ bytes w cells told known text few calm. tt }

pub returns-in-Ok-clause-later : goal.returns-in-Ok-clause-later
returns-in-Ok-clause-later g c = omega (arith, c.in_default.ensures.attached.calm, c.inspect_log.ensures.reads.later)

pub returns-in-Err-clause-cause : goal.returns-in-Err-clause-cause
returns-in-Err-clause-cause g c = reading-unattached c.args.file.now false _ _ oldest_read most_inspected c.in-Err.why c.in-Err.ensures.refused

pub returns-in-Err-clause-decided : goal.returns-in-Err-clause-decided
returns-in-Err-clause-decided g c = decided-attached c.args.file.now false _ _ c.in-Err.why c.in-Err.ensures.refused

pub returns-in-Err-clause-read : goal.returns-in-Err-clause-read
returns-in-Err-clause-read g c = record { attached = c.in-Err.ensures.refused.attached; calm = c.in-Err.ensures.refused.calm }
