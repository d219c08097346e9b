use Rattle.std.proofs.Common.{◌∙◌, List, length, sym, subst}
use Rattle.cell_format.specs.declared.cell.Cell.{Cell}
use Rattle.recovery.specs.Walks.{ComesTo}
use Rattle.follower.specs.Holding.{most_followed}
use Rattle.run_ends.specs.Limits.{oldest_read}
use Rattle.log_run.proofs.DriveSteps.{may-behind}
use Rattle.follow_run.proofs.PlayFacts.{passed-on}
use Rattle.follow_run.proofs.LeaderFacts.{next-told, end-told, found-before, reads-on}
use Rattle.follow_run.proofs.leader.collect.Goals as goal

pub returns-in_err-walked-clause-fault : goal.returns-in_err-walked-clause-fault
returns-in_err-walked-clause-fault g c =
    let w = c.args.walk.now.reading.replay.width in
    passed-on c.from_residual.result _ _ c.from_residual.ensures.1
    (λ bytes told. (c.in_err-walked.ensures.tells w most_followed c.loop-cells.cells.items c.loop-cells.invariant.0).2 bytes (c.loop-cells.invariant.1.stays.bytes ∙ told))

pub returns-in_err-walked-clause-may : goal.returns-in_err-walked-clause-may
returns-in_err-walked-clause-may g c =
    let w = c.args.walk.now.reading.replay.width in
    passed-on c.from_residual.result _ _ c.from_residual.ensures.1
    (may-behind oldest_read most_followed (length c.loop-cells.cells.items) _ (c.in_err-walked.ensures.tells w most_followed c.loop-cells.cells.items c.loop-cells.invariant.0).1)

pub loop-cells-preserved : goal.loop-cells-preserved
loop-cells-preserved g c =
    let drive = g.D.LogDisk.drive in
    let w = c.args.walk.now.reading.replay.width in
    let cells = c.loop-cells.cells.items in
    let old = drive c.loop-cells.walk.disk in
    let new = drive c.next.new.self.disk in
    let tells = c.in_ok-walked.ensures.tells w most_followed cells c.loop-cells.invariant.0 in (
      subst (λ (l : List Cell). ComesTo w most_followed l new c.next.new.self) (sym c.in_ok-keep.ensures.kept) (next-told w cells old new c.next.new.self c.in_ok-walked.field-0 tells c.in-Some.walked c.in-Some.is),
      reads-on (drive c.args.walk.now.disk) old new tt c.in_ok-walked.field-0 tt c.loop-cells.invariant.1 c.in_ok-walked.ensures.reads,
    )

pub returns-clause-found : goal.returns-clause-found
returns-clause-found g c =
    let drive = g.D.LogDisk.drive in
    let w = c.args.walk.now.reading.replay.width in
    let cells = c.loop-cells.cells.items in
    let old = drive c.loop-cells.walk.disk in
    let new = drive c.next.new.self.disk in
    found-before w (drive c.args.walk.now.disk) old cells c.loop-cells.invariant.1.stays
    (end-told w cells old new c.next.new.self c.in_ok-walked.field-0 (c.in_ok-walked.ensures.tells w most_followed cells c.loop-cells.invariant.0) c.requires.width c.in_default.not-Some)
