use Rattle.run_ends.specs.Ends.{targets}
use Rattle.watch_run.proofs.WatchingEnds.{watched-all, watched-none}
use Rattle.watch_run.proofs.watching.tell_watch.Goals as goal

pub returns-in-Ok-clause-ends : goal.returns-in-Ok-clause-ends
returns-in-Ok-clause-ends g c =
    let at = targets g.K.Sink.output g.D.LogDisk.drive in
    let along = c.in-Ok.field-0 in
    let drives = c.args.drives in
    rw c.without_rows.ensures
    (rw c.written-status.ensures
    (watched-all c.args.fences.now c.args.file.now (at c.args.sink.now drives) (at c.write_watch.new.sink (record { disk = along.disk; other = drives.other })) along.watch c.write_watch.result c.in-Ok.ensures.along
    c.write_watch.ensures.bytes c.write_watch.ensures.cause))

pub returns-in-Err-clause-ends : goal.returns-in-Err-clause-ends
returns-in-Err-clause-ends g c =
    let at = targets g.K.Sink.output g.D.LogDisk.drive in
    let unmade = c.in-Err.field-0 in
    let told = c.refuse_on.ensures in
    let drives = c.args.drives in
    rw told.drives
    (watched-none c.args.fences.now c.args.file.now (at c.args.sink.now drives) (at c.refuse_on.new.sink (record { disk = unmade.disk; other = drives.other })) unmade.why c.refuse_on.result.status c.in-Err.ensures.along told.refused)
