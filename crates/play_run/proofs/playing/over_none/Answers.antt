use Rattle.std.proofs.Common.{inl, inr, refl}
use Rattle.run_ends.specs.declared.refusals.Refusal.TheVariants as refusal
use Rattle.play_run.proofs.LogEnds.{answered-new}
use Rattle.play_run.proofs.playing.over_none.Goals as goal

pub returns-in-Ok : goal.returns-in-Ok
returns-in-Ok g c =
    let book = c.in-Ok.book in
    let told = c.play_and_tell-told.result in
    let by = c.in-Ok.ensures in
    let before = g.K.Sink.output c.args.sink.now in
    let after = g.K.Sink.output c.play_and_tell-told.new.sink in
    record {
      plays = inr (answered-new g.D.LogDisk.drive c.args.job.now.report c.args.job.now.size c.args.job.now.rows.now book c.args.drives told.disk before after told.status told.history by.0 by.2 by.3 c.play_and_tell-told.ensures);
      other = refl;
    }

pub returns-in-Err : goal.returns-in-Err
returns-in-Err g c =
    let told = c.refuse_on.ensures in
    rw told.drives (record { plays = inl (record { none = told.none; refused = (refusal.Memory, (refl, refl), told.refused) }); other = refl })
