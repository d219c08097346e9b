use Rattle.log_run.proofs.AnewEnds.{ends-written}
use Rattle.log_run.proofs.compacting.write_anew.Goals as goal

pub returns-in-Ok-clause-ends : goal.returns-in-Ok-clause-ends
returns-in-Ok-clause-ends g c =
    let drive = g.D.LogDisk.drive in
    let output = g.K.Sink.output in
    let seen = c.args.found.now.seen in
    let made = c.in-Ok.ensures in
    let puts = rw c.count_fresh-count.ensures at c.write_compacted.ensures.bytes in
    rw c.without_rows.ensures
    (rw c.written-status.ensures
    (ends-written c.args.found.now.width seen.world seen.leaves c.args.name.now (drive c.args.drives.other) (drive c.in-Ok.other) (output c.args.sink.now) (output c.write_compacted.new.sink) c.write_compacted.result puts
    c.write_compacted.ensures.cause made.made made.attached made.leaves))
