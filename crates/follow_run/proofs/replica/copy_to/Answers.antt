use Rattle.std.proofs.Common.{ℕ, subst}
use Rattle.follow_run.specs.Playing.{EndsPlaying}
use Rattle.follow_run.proofs.ReplicaFacts.{ends-unopened, ends-played}
use Rattle.follow_run.proofs.replica.copy_to.Goals as goal

pub returns-in-Ok-clause-ends : goal.returns-in-Ok-clause-ends
returns-in-Ok-clause-ends g c =
    let drive = g.D.LogDisk.drive in
    let before = g.K.Sink.output c.args.sink.now in
    let after = g.K.Sink.output c.turn_and_tell.new.sink in
    let end = c.turn_and_tell.result in
    let follower = c.in-Ok.follower in
    let opened = c.in-Ok.ensures.opened in
    ends-played drive c.args.width c.args.cells.now c.args.turns.now c.args.name.now (drive c.args.drives.other) (drive end.drives.other) before after follower end.status opened
    (subst (λ (w : ℕ). EndsPlaying w c.args.cells.now follower.state.held c.args.turns.now (drive follower.disk) (drive end.drives.other) end.status before after) opened.width c.turn_and_tell.ensures.ends)

pub returns-in-Err-clause-ends : goal.returns-in-Err-clause-ends
returns-in-Err-clause-ends g c =
    let drive = g.D.LogDisk.drive in
    let unmade = c.in-Err.field-0 in
    rw c.refuse_on.ensures.drives
    (ends-unopened c.args.width c.args.cells.now c.args.turns.now c.args.name.now (drive c.args.drives.other) (drive unmade.disk) (g.K.Sink.output c.args.sink.now) (g.K.Sink.output c.refuse_on.new.sink) unmade.why c.refuse_on.result.status
    c.in-Err.ensures.refused c.refuse_on.ensures.refused)
