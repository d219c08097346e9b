use Rattle.std.proofs.Common.{inl, inr, ⊎_elim, sym, ap, subst}
use Rattle.store_file.specs.declared.faults.EitherCause.TheVariants.{First, Second}
use Rattle.store_file.specs.Either.{WasOpened}
use Rattle.store_file.proofs.EitherFacts.{finds-file, free-first, free-second}
use Rattle.store_file.proofs.either.open_both.Goals as goal

pub returns-in-Err-clause-exact_first : goal.returns-in-Err-clause-exact_first
returns-in-Err-clause-exact_first g c = λ fault shows. ⊎_elim
    (λ is. inl (ap First is))
    (λ free. inr (free-first (g.D.LogDisk.drive c.args.first) (g.D.LogDisk.drive c.args.second) (g.D.LogDisk.drive c.in-Err.field-0.disk) (g.D.LogDisk.drive c.args.second) c.in-Err.field-0.cause free)) (c.in-Err.ensures.exact fault shows)

pub returns-in-Err-clause-exact_second : goal.returns-in-Err-clause-exact_second
returns-in-Err-clause-exact_second g c = λ fault good shows. inr (free-first (g.D.LogDisk.drive c.args.first) (g.D.LogDisk.drive c.args.second) (g.D.LogDisk.drive c.in-Err.field-0.disk) (g.D.LogDisk.drive c.args.second) c.in-Err.field-0.cause (c.in-Err.ensures.whole good))

pub returns-in-Err-clause-whole : goal.returns-in-Err-clause-whole
returns-in-Err-clause-whole g c = λ good also. free-first (g.D.LogDisk.drive c.args.first) (g.D.LogDisk.drive c.args.second) (g.D.LogDisk.drive c.in-Err.field-0.disk) (g.D.LogDisk.drive c.args.second) c.in-Err.field-0.cause (c.in-Err.ensures.whole good)

pub returns-in-Ok-open_file-clause-exact_first : goal.returns-in-Ok-open_file-clause-exact_first
returns-in-Ok-open_file-clause-exact_first g c = λ fault shows. absurd (c.in-Ok.ensures.exact fault shows)

pub returns-in-Ok-open_file-clause-exact_second : goal.returns-in-Ok-open_file-clause-exact_second
returns-in-Ok-open_file-clause-exact_second g c = λ fault good shows. absurd (c.in-Ok-open_file.ensures.exact fault shows)

pub returns-in-Err-open_file-clause-refused : goal.returns-in-Err-open_file-clause-refused
returns-in-Err-open_file-clause-refused g c =
    let drive = g.D.LogDisk.drive in
    let opened = c.in-Ok.one in (
      subst (λ d. WasOpened c.args.width c.args.first_file.now (drive c.args.first) (drive d)) (sym c.give_back.ensures)
          (record {
            cells = c.in-Ok.ensures.opened.found.cells;
            finds = finds-file drive c.args.width c.args.first_file.now (drive c.args.first) opened.start.value (drive opened.log.disk) opened.seen (g.met.D.LogDisk.keeps_laws c.args.first) c.in-Ok.ensures.opened;
          }),
      c.in-Err-open_file.ensures.refused,
    )

pub returns-in-Err-open_file-clause-exact_first : goal.returns-in-Err-open_file-clause-exact_first
returns-in-Err-open_file-clause-exact_first g c = λ fault shows. absurd (c.in-Ok.ensures.exact fault shows)

pub returns-in-Err-open_file-clause-exact_second : goal.returns-in-Err-open_file-clause-exact_second
returns-in-Err-open_file-clause-exact_second g c = λ fault good shows. ⊎_elim
    (λ is. inl (ap Second is))
    (λ free. inr (free-second (g.D.LogDisk.drive c.args.first) (g.D.LogDisk.drive c.args.second) (g.D.LogDisk.drive c.give_back.result) (g.D.LogDisk.drive c.in-Err-open_file.field-0.disk) c.in-Err-open_file.field-0.cause free)) (c.in-Err-open_file.ensures.exact fault shows)

pub returns-in-Err-open_file-clause-whole : goal.returns-in-Err-open_file-clause-whole
returns-in-Err-open_file-clause-whole g c = λ good also. free-second (g.D.LogDisk.drive c.args.first) (g.D.LogDisk.drive c.args.second) (g.D.LogDisk.drive c.give_back.result) (g.D.LogDisk.drive c.in-Err-open_file.field-0.disk) c.in-Err-open_file.field-0.cause (c.in-Err-open_file.ensures.whole also)
