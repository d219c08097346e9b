use Rattle.std.proofs.Common.{◌∙◌, sym, subst}
use Rattle.disk_trait.specs.Drive.{Drive}
use Rattle.kept_log.proofs.Starting.{opened-found}
use Rattle.run_ends.specs.declared.refusals.Refusal.{Refusal}
use Rattle.run_ends.specs.Limits.{most_played}
use Rattle.play_run.specs.Playing.{IsNotOpened}
use Rattle.play_run.specs.inside.Books.{OpensFile}
use Rattle.play_run.proofs.OpeningFacts.{attach-refused, log-refused, keeps-cells-after}
use Rattle.play_run.proofs.log_book.open_file.Goals as goal

pub returns-in-Err-clause-refused : goal.returns-in-Err-clause-refused
returns-in-Err-clause-refused g c =
    attach-refused c.args.file.now _ _ c.in-Err.why (g.met.D.LogDisk.keeps_laws c.args.disk) c.in-Err.ensures.refused

pub returns-in-Err-open_log-clause-refused : goal.returns-in-Err-open_log-clause-refused
returns-in-Err-open_log-clause-refused g c =
    let drive = g.D.LogDisk.drive in
    let by = c.in-Err-open_log.ensures in
    let e = c.in-Err-open_log.field-0 in
    subst (λ (why : Refusal). IsNotOpened c.args.file.now (drive c.args.disk) (drive e.disk) why) (sym c.log_refusal-why.ensures)
    (log-refused c.args.file.now (drive c.args.disk) (drive c.attach.new.disk) (drive e.disk) e.cause (g.met.D.LogDisk.keeps_laws c.args.disk) c.in_default.ensures.attached by.refused by.any_moment)

pub returns-in-Ok-clause-opened : goal.returns-in-Ok-clause-opened
returns-in-Ok-clause-opened g c =
    let drive = g.D.LogDisk.drive in
    let log = c.in-Ok.log in
    let by = c.in-Ok.ensures in
    let at = c.in_default.ensures.attached in
    let old : Drive = drive c.args.disk in
    let start : Drive = drive c.attach.new.disk in
    let now : Drive = drive log.opened.log.disk in
    subst (λ d. OpensFile c.args.file.now old (drive d) now log.width log.opened.seen) (sym by.start) (record {
      known = by.opened.log.width.known;
      found = by.opened.log.found;
      ready = opened-found log.width most_played start now log.opened.seen by.opened.log.found by.opened.ready (by.any_moment.cells log.width);
      stays = at.stays;
      calm = at.calm;
      attached = at.named;
      keeps = keeps-cells-after log.width old start now (g.met.D.LogDisk.keeps_laws c.args.disk) at.stays (by.any_moment.cells log.width);
      shows = λ bytes fault told shown is. by.opened.log.sound bytes fault (at.stays.bytes ∙ told) shown is;
    })
