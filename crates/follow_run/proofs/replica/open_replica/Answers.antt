use Rattle.std.proofs.Common.{sym, subst}
use Rattle.run_ends.specs.declared.refusals.Refusal.{Refusal}
use Rattle.follow_run.specs.Playing.{LosesReplica}
use Rattle.follow_run.proofs.ReplicaFacts.{lost-attached, opened, lost}
use Rattle.follow_run.proofs.replica.open_replica.Goals as goal

pub returns-in-Err-clause-refused : goal.returns-in-Err-clause-refused
returns-in-Err-clause-refused g c =
    let refused = c.in-Err.ensures.refused in
    lost-attached c.args.width c.args.cells.now _ _ (g.met.D.LogDisk.keeps_laws c.args.other) refused.stays c.args.name.now c.in-Err.why refused

pub returns-in-Ok-clause-opened : goal.returns-in-Ok-clause-opened
returns-in-Ok-clause-opened g c =
    let a = g.D.LogDisk.drive c.args.other in
    let b = g.D.LogDisk.drive c.attach.new.disk in
    let found_there = c.in-Ok.ensures in
    opened c.args.width c.args.cells.now a b (g.met.D.LogDisk.keeps_laws c.args.other) c.in_default.ensures.attached.stays c.args.name.now c.in_default.ensures.attached.named c.in_default.ensures.attached.calm g.D.LogDisk.drive c.in-Ok.follower
    found_there.opened found_there.any_moment found_there.exact found_there.strange

pub returns-in-Err-open-clause-refused : goal.returns-in-Err-open-clause-refused
returns-in-Err-open-clause-refused g c =
    let a = g.D.LogDisk.drive c.args.other in
    let b = g.D.LogDisk.drive c.attach.new.disk in
    let found = c.in-Err-open.field-0 in
    let found_there = c.in-Err-open.ensures in
    subst (λ (why : Refusal). LosesReplica c.args.width c.args.cells.now c.args.name.now a (g.D.LogDisk.drive found.disk) why) (sym c.follow_refusal-why.ensures)
    (lost c.args.width c.args.cells.now a b (g.met.D.LogDisk.keeps_laws c.args.other) c.in_default.ensures.attached.stays c.args.name.now c.in_default.ensures.attached.named c.in_default.ensures.attached.calm (g.D.LogDisk.drive found.disk) found.fault found_there.refused
    found_there.exact found_there.strange found_there.whole found_there.any_moment)
