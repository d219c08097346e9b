use Rattle.std.proofs.Common.{sym, subst}
use Rattle.run_ends.specs.declared.refusals.Refusal.{Refusal}
use Rattle.follow_run.specs.Leading.{LosesLeader}
use Rattle.follow_run.proofs.LeaderFacts.{reads-leader, loses-leader, loses-attached}
use Rattle.follow_run.proofs.leader.find_leader.Goals as goal

pub returns-in-Ok-clause-read : goal.returns-in-Ok-clause-read
returns-in-Ok-clause-read g c =
    let drive = g.D.LogDisk.drive in
    let leader = c.in-Ok.leader in
    reads-leader c.args.file.now leader.width (drive c.args.disk) (drive c.attach.new.disk) (drive leader.disk) leader.cells.items tt c.in_default.ensures.attached.stays c.in_default.ensures.attached.calm c.in_default.ensures.attached.named
    c.in-Ok.ensures.reads c.in-Ok.ensures.found

pub returns-in-Err-clause-lost : goal.returns-in-Err-clause-lost
returns-in-Err-clause-lost g c = loses-attached c.args.file.now _ _ c.in-Err.why c.in-Err.ensures.refused

pub returns-in-Err-read_leader-clause-lost : goal.returns-in-Err-read_leader-clause-lost
returns-in-Err-read_leader-clause-lost g c =
    let a = g.D.LogDisk.drive c.args.disk in
    let b = g.D.LogDisk.drive c.attach.new.disk in
    let refused = c.in-Err-read_leader.field-0 in
    let is = c.in-Err-read_leader.ensures in
    subst (λ (why : Refusal). LosesLeader c.args.file.now a (g.D.LogDisk.drive refused.disk) why) (sym c.log_refusal-why.ensures)
    (loses-leader c.args.file.now a b (g.D.LogDisk.drive refused.disk) refused.cause c.in_default.ensures.attached.stays c.in_default.ensures.attached.calm c.in_default.ensures.attached.named is.reads is.fault is.may is.exact is.whole)
