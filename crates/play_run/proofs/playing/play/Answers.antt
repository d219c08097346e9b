use Rattle.std.proofs.Common.{◌∙◌, inl, inr, refl, ap}
use Rattle.command_words.specs.Asked.{file_of}
use Rattle.command_words.specs.declared.parsing.Command.TheVariants.{Play}
use Rattle.run_ends.specs.Ends.{ends}
use Rattle.run_ends.specs.Status.{status_of}
use Rattle.play_run.proofs.PlayFacts.{plays-of}
use Rattle.play_run.proofs.playing.play.Goals as goal

pub returns-in-Ok : goal.returns-in-Ok
returns-in-Ok g c =
    let told = c.play_rows.ensures in
    plays-of _ c.args.size _ told.other (inr (record { rows = c.in-Ok.rows; read = c.in-Ok.ensures.rows; plays = rw c.as_slice-rows.ensures.rows at told.plays }))

pub returns-in-Err : goal.returns-in-Err
returns-in-Err g c =
    let at = ends g.S.Source.input g.K.Sink.output g.D.LogDisk.drive in
    let told = c.refuse_on.ensures in
    let end = c.refuse_on.result in
    rw told.drives
    (plays-of (file_of (Play c.args.log c.args.size)) c.args.size
    (record { old = at c.args.source.now c.args.sink.now c.args.drives; new = at c.read_judged.new.source c.refuse_on.new.sink c.args.drives; status = end.status; history = end.history })
    refl
    (inl (record {
      none = told.none;
      disk = refl;
      calm = λ other. c.in-Err.ensures.calm (λ is. other (told.refused.status_is ∙ ap status_of is));
      refused = (c.in-Err.why, c.in-Err.ensures.cause, told.refused);
      taken = c.read_judged.ensures.taken;
    })))
