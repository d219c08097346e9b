use Rattle.log_run.specs.Showing.{shown_text}
use Rattle.log_run.proofs.CheckingFacts.{told-refused}
use Rattle.log_run.proofs.showing.tell_objects.Goals as goal

pub returns-in-Err : goal.returns-in-Err
returns-in-Err g c =
    let drive = g.D.LogDisk.drive in
    let output = g.K.Sink.output in
    let told = c.put_refusal.ensures in
    let found = c.in-Err.ensures in
    record {
      ends =
          told-refused (shown_text c.args.region.now) c.args.file.now (drive c.args.disk.now) (drive c.find.new.disk) c.in-Err.why c.put_refusal.result (output c.args.sink.now) (output c.put_refusal.new.sink) found.cause found.decided found.read found.stays told.refused;
    }
