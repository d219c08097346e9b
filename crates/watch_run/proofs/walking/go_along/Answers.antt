use Rattle.std.proofs.Common.{[]}
use Rattle.run_ends.specs.Limits.{most_inspected}
use Rattle.watch_run.proofs.Stops.{refuses-fault}
use Rattle.watch_run.proofs.Alongs.{calm-reads, fails-led, finds-all, stops-led}
use Rattle.watch_run.proofs.walking.go_along.Goals as goal

pub along-requires : goal.along-requires
along-requires g c = (_, most_inspected, [], c.requires.1.started.comes)

pub returns-in-Ok : goal.returns-in-Ok
returns-in-Ok g c =
    let told = c.in-Ok.ensures in
    record {
      along = λ fences begun.
          let led = told.along _ most_inspected [] [] [] fences begun.started.comes begun.none in
          record { finds = finds-all _ fences _ _ _ _ begun.started.width told.few led; calm = calm-reads _ _ _ told.reads };
    }

pub returns-in-Err-Watch : goal.returns-in-Err-Watch
returns-in-Err-Watch g c =
    let told = rw c.in-Err-Watch.field-0-is at c.in-Err-Watch.ensures in
    rw c.watch_refusal.ensures
    (record {
      along = λ fences begun.
          let stops = told.along _ most_inspected [] [] [] fences begun.started.comes begun.none in
          stops-led _ fences _ _ _ _ begun.started.width told.few _ stops.led (calm-reads _ _ _ told.reads) c.in-Err-Watch.fault stops.full.0;
    })

pub returns-in-Err-Log : goal.returns-in-Err-Log
returns-in-Err-Log g c =
    let told = rw c.in-Err-Log.field-0-is at c.in-Err-Log.ensures in
    rw c.log_refusal.ensures
    (record {
      along = λ fences begun.
          let led = told.along _ most_inspected [] [] [] fences begun.started.comes begun.none in
          let fails = fails-led _ fences _ _ _ _ begun.started.width told.few c.in-Err-Log.fault led told.reads in
          record { refuses = refuses-fault fences _ _ c.in-Err-Log.fault fails; file = told.reads.file };
    })
