use Rattle.std.proofs.Common.{◌⊎◌, ◌≡◌, ◌∙◌, sym, subst}
use Rattle.store_file.specs.declared.faults.OpenCause.{OpenCause}
use Rattle.store_file.specs.declared.faults.OpenCause.TheVariants.{Log}
use Rattle.store_file.specs.Files.{OpensFile}
use Rattle.store_file.specs.Refused.{NotOpens, IsFreeCause}
use Rattle.store_file.proofs.FileFacts.{exact-cause, open-refused, opened-free, good-free, free-cause}
use Rattle.store_file.proofs.files.open_file.Goals as goal

pub returns-in-Ok-clause-opened : goal.returns-in-Ok-clause-opened
returns-in-Ok-clause-opened g c =
    let drive = g.D.LogDisk.drive in
    let by = c.in-Ok.ensures in
    let opened = c.in-Ok.opened in
    subst (λ d. OpensFile c.args.width c.args.file.now (drive c.args.disk) (drive d) (drive opened.log.disk) opened.seen) (sym by.start)
    (record { readies = c.in_ok-disk.ensures.ready; found = by.opened.log.found; ready = by.opened.ready; keeps = by.any_moment.cells c.args.width })

pub returns-in-Err-clause-refused : goal.returns-in-Err-clause-refused
returns-in-Err-clause-refused g c =
    let drive = g.D.LogDisk.drive in
    let by = c.in-Err.ensures in
    let e = c.in-Err.field-0 in
    subst (NotOpens c.args.width c.args.file.now (drive c.args.disk) (drive e.disk)) (sym c.open_cause.ensures)
    (open-refused c.args.width c.args.file.now (drive c.args.disk) (drive c.in_ok-disk.disk) (drive e.disk) (g.met.D.LogDisk.keeps_laws c.args.disk) c.in_ok-disk.ensures.ready e.cause
    (opened-free c.args.width (drive c.in_ok-disk.disk) (drive e.disk) e.cause c.requires by.refused) by.refused.leaves by.refused.fault.may by.refused.fault.shows by.refused.fault.rose (by.any_moment.cells c.args.width) by.any_moment.later)

pub returns-in-Err-clause-whole : goal.returns-in-Err-clause-whole
returns-in-Err-clause-whole g c = λ good.
    let drive = g.D.LogDisk.drive in
    let e = c.in-Err.field-0 in
    let laws = g.met.D.LogDisk.keeps_laws c.args.disk in
    let ready = c.in_ok-disk.ensures.ready in
    subst (IsFreeCause (drive c.args.disk) (drive e.disk)) (sym c.open_cause.ensures)
    (free-cause c.args.width c.args.file.now (drive c.args.disk) (drive c.in_ok-disk.disk) (drive e.disk) laws ready e.cause
    (good-free c.args.width c.args.file.now (drive c.args.disk) (drive c.in_ok-disk.disk) (drive e.disk) laws ready e.cause
    (opened-free c.args.width (drive c.in_ok-disk.disk) (drive e.disk) e.cause c.requires c.in-Err.ensures.refused) good))

pub returns-in-Ok-clause-exact : goal.returns-in-Ok-clause-exact
returns-in-Ok-clause-exact g c = λ fault shows.
    let here = (c.in_ok-disk.ensures.ready.in_use shows.bytes shows.told shows.in_use).bytes ∙ shows.told in
    absurd (c.in-Ok.ensures.opened.log.sound shows.bytes fault here shows.in_bytes shows.is)

pub returns-in-Err-clause-exact : goal.returns-in-Err-clause-exact
returns-in-Err-clause-exact g c = λ fault shows.
    let drive = g.D.LogDisk.drive in
    let e = c.in-Err.field-0 in
    let ready = c.in_ok-disk.ensures.ready in
    let here = (ready.in_use shows.bytes shows.told shows.in_use).bytes ∙ shows.told in
    subst (λ (why : OpenCause). (why ≡ Log fault) ⊎ IsFreeCause (drive c.args.disk) (drive e.disk) why) (sym c.open_cause.ensures)
    (exact-cause c.args.width c.args.file.now (drive c.args.disk) (drive c.in_ok-disk.disk) (drive e.disk) (g.met.D.LogDisk.keeps_laws c.args.disk) ready e.cause fault shows.in_bytes
    (c.in-Err.ensures.refused.fault.exact shows.bytes fault here shows.in_bytes shows.is))
