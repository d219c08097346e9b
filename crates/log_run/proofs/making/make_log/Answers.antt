use Rattle.std.proofs.Common.{refl}
use Rattle.run_ends.specs.Ends.{targets}
use Rattle.log_run.proofs.MakingEnds.{ends-made, ends-unmade}
use Rattle.log_run.proofs.making.make_log.Goals as goal

pub returns-in-Ok : goal.returns-in-Ok
returns-in-Ok g c =
    let at = targets g.K.Sink.output g.D.LogDisk.drive in
    let made = c.in-Ok.ensures in
    let told = c.write_made.ensures in
    rw c.without_rows.ensures
    (rw c.written-status.ensures
    (record {
      ends =
          ends-made c.args.file.now c.args.width (at c.args.sink.now c.args.drives) (at c.write_made.new.sink (record { disk = c.in-Ok.disk; other = c.args.drives.other })) c.write_made.result told.bytes told.cause made.made made.attached
          made.leaves;
      none = refl;
      other = refl;
    }))

pub returns-in-Err : goal.returns-in-Err
returns-in-Err g c =
    let at = targets g.K.Sink.output g.D.LogDisk.drive in
    let unmade = c.in-Err.field-0 in
    let why = c.in-Err.ensures in
    let told = c.refuse_on.ensures in
    rw told.drives
    (record {
      ends =
          ends-unmade c.args.file.now c.args.width (at c.args.sink.now c.args.drives) (at c.refuse_on.new.sink (record { disk = unmade.disk; other = c.args.drives.other })) unmade.why c.refuse_on.result.status told.refused why.cause
          why.attached why.calm why.leaves;
      none = told.none;
      other = refl;
    })
