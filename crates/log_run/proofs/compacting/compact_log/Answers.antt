use Rattle.std.proofs.Common.{refl}
use Rattle.run_ends.specs.Ends.{targets}
use Rattle.log_run.proofs.AnewEnds.{splits-found, few-found, compacts-found, compacts-refused}
use Rattle.log_run.proofs.compacting.compact_log.Goals as goal

pub write_anew-requires-clause-splits : goal.write_anew-requires-clause-splits
write_anew-requires-clause-splits g c = splits-found c.in-Ok.found.width c.in-Ok.ensures.found.0 (g.D.LogDisk.drive c.args.drives.disk) c.in-Ok.found.seen c.in-Ok.ensures.found.1

pub write_anew-requires-clause-few : goal.write_anew-requires-clause-few
write_anew-requires-clause-few g c = few-found c.in-Ok.found.width c.in-Ok.ensures.found.0 (g.D.LogDisk.drive c.args.drives.disk) c.in-Ok.found.seen c.in-Ok.ensures.found.1

pub returns-in-Ok : goal.returns-in-Ok
returns-in-Ok g c =
    let at = targets g.K.Sink.output g.D.LogDisk.drive in
    let found = c.in-Ok.ensures in
    let end = c.write_anew.result in
    let told = c.write_anew.ensures in
    rw told.disk
    (record {
      ends =
          compacts-found c.args.file.now c.args.name.now (at c.args.sink.now c.args.drives) (at c.write_anew.new.sink (record { disk = c.find.new.disk; other = end.drives.other })) c.in-Ok.found end.status found.found.0 found.found.1
          found.decided found.read found.stays told.ends;
      none = told.none;
    })

pub returns-in-Err : goal.returns-in-Err
returns-in-Err g c =
    let at = targets g.K.Sink.output g.D.LogDisk.drive in
    let found = c.in-Err.ensures in
    let told = c.refuse_on.ensures in
    rw told.drives
    (record {
      ends =
          compacts-refused c.args.file.now c.args.name.now (at c.args.sink.now c.args.drives) (at c.refuse_on.new.sink (record { disk = c.find.new.disk; other = c.args.drives.other })) c.in-Err.why c.refuse_on.result.status found.cause
          found.decided found.read found.stays told.refused refl;
      none = told.none;
    })
