use Rattle.std.proofs.Common.{◌∙◌, inl, inr, refl, ap}
use Rattle.run_ends.specs.Ends.{ends}
use Rattle.run_ends.specs.Status.{status_of}
use Rattle.watch_run.proofs.WatchingEnds.{watches-of}
use Rattle.watch_run.proofs.watching.watch_log.Goals as goal

pub returns-in-Ok : goal.returns-in-Ok
returns-in-Ok g c =
    let told = c.tell_watch.ensures in
    watches-of c.args.file.now _ (inr (record { fences = c.in-Ok.fences; read = c.in-Ok.ensures.fences; ends = told.ends })) told.none told.other

pub returns-in-Err : goal.returns-in-Err
returns-in-Err g c =
    let at = ends g.S.Source.input g.K.Sink.output g.D.LogDisk.drive in
    let told = c.refuse_on.ensures in
    let end = c.refuse_on.result in
    rw told.drives
    (watches-of c.args.file.now
    (record { old = at c.args.source.now c.args.sink.now c.args.drives; new = at c.read_watched.new.source c.refuse_on.new.sink c.args.drives; status = end.status; history = end.history })
    (inl (record {
      disk = refl;
      calm = λ other. c.in-Err.ensures.calm (λ is. other (told.refused.status_is ∙ ap status_of is));
      refused = (c.in-Err.why, c.in-Err.ensures.cause, told.refused);
      taken = c.read_watched.ensures.taken;
    }))
    told.none refl)
