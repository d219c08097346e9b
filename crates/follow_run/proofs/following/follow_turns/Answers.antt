use Rattle.std.proofs.Common.{List, refl, sym, subst}
use Rattle.cell_format.specs.declared.cell.Cell.{Cell}
use Rattle.follower.specs.Holding.{AreLeading}
use Rattle.run_ends.specs.Ends.{targets}
use Rattle.follow_run.specs.Replica.{EndsReplica}
use Rattle.follow_run.proofs.FollowingEnds.{ends-lost, ends-read}
use Rattle.follow_run.proofs.following.follow_turns.Goals as goal

pub copy_to-requires-clause-leading : goal.copy_to-requires-clause-leading
copy_to-requires-clause-leading g c =
    let leader = c.in-Ok.field-0 in
    subst (λ (l : List Cell). AreLeading leader.width l) (sym c.as_slice.ensures.value) c.in-Ok.ensures.read.has.found.leading

pub returns-in-Ok-clause-ends : goal.returns-in-Ok-clause-ends
returns-in-Ok-clause-ends g c =
    let at = targets g.K.Sink.output g.D.LogDisk.drive in
    let drive = g.D.LogDisk.drive in
    let leader = c.in-Ok.field-0 in
    let end = c.copy_to.result in
    let before = g.K.Sink.output c.args.sink.now in
    let after = g.K.Sink.output c.copy_to.new.sink in
    rw c.copy_to.ensures.disk
    (ends-read c.args.file.now c.args.name.now c.args.turns.now (at c.args.sink.now c.args.drives) (at c.copy_to.new.sink (record { disk = leader.disk; other = end.drives.other })) leader.width leader.cells.items end.status c.in-Ok.ensures.read
    (subst (λ (l : List Cell). EndsReplica leader.width l c.args.turns.now c.args.name.now (drive c.args.drives.other) (drive end.drives.other) end.status before after) c.as_slice.ensures.value c.copy_to.ensures.ends))

pub returns-in-Err-clause-ends : goal.returns-in-Err-clause-ends
returns-in-Err-clause-ends g c =
    let at = targets g.K.Sink.output g.D.LogDisk.drive in
    let unmade = c.in-Err.field-0 in
    let told = c.refuse_on.ensures in
    rw told.drives
    (ends-lost c.args.file.now c.args.name.now c.args.turns.now (at c.args.sink.now c.args.drives) (at c.refuse_on.new.sink (record { disk = unmade.disk; other = c.args.drives.other })) unmade.why c.refuse_on.result.status c.in-Err.ensures.lost refl
    told.refused)
