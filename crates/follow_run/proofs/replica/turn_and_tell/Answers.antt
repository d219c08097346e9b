use Rattle.std.proofs.Common.{List, subst}
use Rattle.io_edge.specs.Puts.{Puts}
use Rattle.follower.specs.declared.turns.Report.{Report}
use Rattle.run_ends.specs.declared.refusals.Refusal.{Refusal}
use Rattle.run_ends.specs.Taking.{Refuses}
use Rattle.follow_run.specs.Lines.{reports_text}
use Rattle.follow_run.proofs.ReplicaFacts.{plays-told, plays-stopped}
use Rattle.follow_run.proofs.replica.turn_and_tell.Goals as goal

pub returns-in-Ok-clause-ends : goal.returns-in-Ok-clause-ends
returns-in-Ok-clause-ends g c =
    let before = g.K.Sink.output c.args.sink.now in
    let after = g.K.Sink.output c.write_reports.new.sink in
    let played = c.in-Ok.field-0 in
    let wrote = c.write_reports.result in
    rw c.without_rows.ensures
    (rw c.written-status.ensures
    (plays-told c.args.follower.width c.args.cells.now c.args.follower.state.held c.args.turns.now (g.D.LogDisk.drive c.args.follower.disk) (g.D.LogDisk.drive played.disk) before after played.reports.items wrote c.in-Ok.ensures.played
    (subst (λ (l : List Report). Puts before.taken after.taken (reports_text l) wrote) c.as_slice.ensures.value c.write_reports.ensures.bytes) c.write_reports.ensures.cause))

pub returns-in-Err-clause-ends : goal.returns-in-Err-clause-ends
returns-in-Err-clause-ends g c =
    let before = g.K.Sink.output c.args.sink.now in
    let after = g.K.Sink.output c.refuse_on.new.sink in
    let stopped = c.in-Err.field-0 in
    rw c.refuse_on.ensures.drives
    (plays-stopped c.args.follower.width c.args.cells.now c.args.follower.state.held c.args.turns.now (g.D.LogDisk.drive c.args.follower.disk) (g.D.LogDisk.drive stopped.disk) before after stopped.fault c.refuse_on.result.status c.in-Err.ensures.stopped
    (subst (λ (r : Refusal). Refuses r c.refuse_on.result.status before after) c.follow_refusal-why.ensures c.refuse_on.ensures.refused))
