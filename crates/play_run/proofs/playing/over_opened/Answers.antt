use Rattle.std.proofs.Common.{inl, inr, refl, ap, subst}
use Rattle.play_run.specs.inside.Ended.{EndsBook}
use Rattle.play_run.proofs.BookEnds.{opens-book}
use Rattle.play_run.proofs.OpeningFacts.{memory-refused}
use Rattle.play_run.proofs.LogEnds.{answered-over}
use Rattle.play_run.proofs.playing.over_opened.Goals as goal

pub returns-in-Ok-clause-plays : goal.returns-in-Ok-clause-plays
returns-in-Ok-clause-plays g c = λ file disk opens.
    let drive = g.D.LogDisk.drive in
    let w = g.I.Index.WIDTH in
    let job = c.args.job.now in
    let book = c.in-Ok.book in
    let opened = c.args.opened in
    let told = c.play_and_tell-status in
    let before = g.K.Sink.output c.args.sink.now in
    let after = g.K.Sink.output told.new.sink in
    inr (answered-over drive job.report file w job.size job.rows.now book disk c.unwrap-disk.result c.args.other before after told.result.status told.result.history
    (opens-book drive file (drive disk) w job.size book _ opened.seen opened.start.value (drive opened.log.disk) opens (record { once = refl; still = refl; whole = refl }) refl refl c.requires.log.0 c.in-Ok.ensures.opening.0 c.in-Ok.ensures.opening.1 c.in-Ok.ensures.log)
    (subst (λ d. EndsBook drive w job.report job.rows.now book told.result.history told.result.status d before after) c.unwrap-disk.ensures told.ensures))

pub returns-in-Err-clause-plays : goal.returns-in-Err-clause-plays
returns-in-Err-clause-plays g c = λ file disk opens.
    let drive = g.D.LogDisk.drive in
    let unmade = c.in-Err.field-0 in
    let opened = c.args.opened in
    let told = c.refuse_on.ensures in
    -- the laws of a drive, where threads run
    let laws = (g.met.D.LogDisk g.world.𝓛 g.world.𝓜 g.world.𝓡 ((λ s x. x), (λ x. x), (λ x. x), λ x. x)).keeps_laws in
    let not = memory-refused file (drive disk) (drive opened.start.value) (drive opened.log.disk) (drive unmade.disk) g.I.Index.WIDTH opened.seen unmade.why (laws disk) opens (ap drive c.in-Err.ensures.back.0) c.in-Err.ensures.back.1 in
    rw told.drives (inl (record { none = told.none; refused = (unmade.why, not, told.refused) }))
