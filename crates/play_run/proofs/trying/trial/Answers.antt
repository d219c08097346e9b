use Rattle.std.proofs.Common.{◌≡◌, inl, inr, Some, None, refl}
use Rattle.command_words.specs.Asked.{file_of}
use Rattle.command_words.specs.declared.parsing.Command.TheVariants.{Play, Trial}
use Rattle.run_ends.specs.Ends.{targets}
use Rattle.run_ends.specs.Limits.{trial_bucket}
use Rattle.play_run.proofs.TrialEnds.{tries-of}
use Rattle.play_run.proofs.trying.trial.Goals as goal

pub returns-in-Ok : goal.returns-in-Ok
returns-in-Ok g c =
    let told = c.play_rows.ensures in
    let same : file_of (Play c.args.log trial_bucket) ≡ file_of (Trial c.args.log c.args.made) =
    elim c.args.log as (λ l. file_of (Play l trial_bucket) ≡ file_of (Trial l c.args.made)) [ Some file ↦ refl | None ↦ refl ] in
    tries-of _ c.args.made _ told.other (inr (rw (c.as_slice-rows.ensures.rows, c.in-Ok.ensures, same) at told.plays))

pub returns-in-Err : goal.returns-in-Err
returns-in-Err g c =
    let at = targets g.K.Sink.output g.D.LogDisk.drive in
    let told = c.refuse_on.ensures in
    let end = c.refuse_on.result in
    rw told.drives
    (tries-of (file_of (Trial c.args.log c.args.made)) c.args.made
    (record { old = at c.args.sink.now c.args.drives; new = at c.refuse_on.new.sink c.args.drives; status = end.status; history = end.history })
    refl (inl (record { none = told.none; disk = refl; refused = told.refused })))
