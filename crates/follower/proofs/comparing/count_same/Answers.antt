use Rattle.recovery.proofs.PieceLemmas.{passed_on}
use Rattle.follower.proofs.CountLemmas.{stopped, counted, room, smaller, preserved}
use Rattle.follower.proofs.comparing.count_same.Goals as goal

pub returns-in_err-walked-clause-stopped : goal.returns-in_err-walked-clause-stopped
returns-in_err-walked-clause-stopped g c =
    let drive = g.D.LogDisk.drive in
    let first = c.args.walk.now in
    passed_on c.from_residual.result _ _ c.from_residual.ensures.1
    (stopped first.reading.replay.width c.args.cells.now (drive first.disk) (drive c.loop-walked.walk.disk) (drive c.next.new.self.disk) c.loop-walked.walk c.next.new.self c.loop-walked.tally c.loop-walked.invariant
    c.in_err-walked.field-0.0 c.in_err-walked.ensures.tells)

pub with-tally-requires : goal.with-tally-requires
with-tally-requires g c =
    let drive = g.D.LogDisk.drive in
    let first = c.args.walk.now in
    room first.reading.replay.width c.args.cells.now (drive first.disk) (drive c.loop-walked.walk.disk) (drive c.next.new.self.disk) c.loop-walked.walk c.next.new.self c.loop-walked.tally c.loop-walked.invariant
    c.in_ok-walked.field-0 c.in-Some.walked c.in-Some.is c.in_ok-walked.ensures.tells

pub loop-walked-smaller : goal.loop-walked-smaller
loop-walked-smaller g c =
    let drive = g.D.LogDisk.drive in
    let first = c.args.walk.now in
    smaller first.reading.replay.width c.args.cells.now (drive first.disk) (drive c.loop-walked.walk.disk) (drive c.next.new.self.disk) c.loop-walked.walk c.next.new.self c.loop-walked.tally c.loop-walked.invariant
    c.in_ok-walked.field-0 c.in-Some.walked c.in-Some.is c.in_ok-walked.ensures.tells

pub loop-walked-preserved : goal.loop-walked-preserved
loop-walked-preserved g c =
    let drive = g.D.LogDisk.drive in
    let first = c.args.walk.now in
    preserved first.reading.replay.width c.args.cells.now (drive first.disk) (drive c.loop-walked.walk.disk) (drive c.next.new.self.disk) c.loop-walked.walk c.next.new.self c.loop-walked.tally c.loop-walked.invariant
    c.in_ok-walked.field-0 c.in-Some.walked c.in-Some.is c.in_ok-walked.ensures.tells c.with-tally.result c.with-tally.ensures c.in_ok-walked.ensures.reads

pub returns-clause-counted : goal.returns-clause-counted
returns-clause-counted g c =
    let drive = g.D.LogDisk.drive in
    let first = c.args.walk.now in
    counted first.reading.replay.width c.args.cells.now (drive first.disk) (drive c.loop-walked.walk.disk) (drive c.next.new.self.disk) c.loop-walked.walk c.next.new.self c.loop-walked.tally c.loop-walked.invariant
    c.in_ok-walked.field-0 c.in_default.not-Some c.in_ok-walked.ensures.tells
