use Rattle.std.proofs.Common.{Some, refl, sym, subst}
use Rattle.book_lock.specs.Pass.{Known}
use Rattle.store_file.specs.declared.either.Which.{Which}
use Rattle.store_file.specs.declared.either.Which.TheVariants as side
use Rattle.store_file.specs.Either.{BeginsEither, Chooses}
use Rattle.store_file.specs.Opened.{BeginsOver}
use Rattle.store_file.specs.Waiting.{Writes}
use Rattle.store_file.proofs.WaitingFacts.{writes-as}
use Rattle.store_file.proofs.EitherFacts.{begins-placed, neither-by}
use Rattle.store_file.proofs.either.go_on_over_either.Goals as goal

pub returns-in-Ok-clause-begins : goal.returns-in-Ok-clause-begins
returns-in-Ok-clause-begins g c =
    let both = c.args.both in
    let taken = c.in-Ok.taken in
    let ens = c.either_of.ensures in
    let r = c.either_of.result in
    let drive = g.D.LogDisk.drive in
    let begun = λ (k : Known). BeginsEither drive c.args.bucket both.one.seen both.two.seen both.one.log both.two.log both.one.start.value both.two.start.value r.which r.store k r.points r.latest r.records r.spare in
    subst (Writes c.args.at_sync begun) (sym ens.pass)
    (writes-as c.args.at_sync
    (λ (k : Known). BeginsOver drive c.args.bucket both.one.seen both.one.start.value taken.opened.store k taken.opened.points taken.opened.latest taken.opened.records)
    begun
    (λ k is. begins-placed drive c.args.bucket both.one.seen both.two.seen both.one.log both.two.log both.one.start.value both.two.start.value
    side.First r.which taken.opened.store r.store k k taken.opened.points r.points
    taken.opened.latest r.latest taken.opened.records r.records taken.spare r.spare
    ens.which ens.store refl ens.points ens.latest ens.records ens.spare
    (record {
      may = subst (λ (which : Which). Chooses both.one.seen both.two.seen (Some which)) c.in-Some-First.field-0-is c.in-Some-First.ensures;
      begins = is;
      cleared = c.in-Ok.ensures.cleared.0;
      keeps = c.in-Ok.ensures.cleared.1;
    })) taken.opened.pass c.in-Ok.ensures.begins)

pub returns-in-Some-First-clause-refused : goal.returns-in-Some-First-clause-refused
returns-in-Some-First-clause-refused g c =
    let both = c.args.both in
    let e = c.in-Err.field-0 in
    let back = c.in-Err.ensures.back in
    neither-by g.D.LogDisk.drive both.one.seen both.two.seen both.one.log both.two.log e.chosen e.other side.First
    (subst (λ (which : Which). Chooses both.one.seen both.two.seen (Some which)) c.in-Some-First.field-0-is c.in-Some-First.ensures)
    back.0 e.cause back.1 back.2

pub returns-in-Ok-go_on_over-clause-begins : goal.returns-in-Ok-go_on_over-clause-begins
returns-in-Ok-go_on_over-clause-begins g c =
    let both = c.args.both in
    let taken = c.in-Ok-go_on_over.taken in
    let ens = c.either_of-in-Ok-go_on_over.ensures in
    let r = c.either_of-in-Ok-go_on_over.result in
    let drive = g.D.LogDisk.drive in
    let begun = λ (k : Known). BeginsEither drive c.args.bucket both.one.seen both.two.seen both.one.log both.two.log both.one.start.value both.two.start.value r.which r.store k r.points r.latest r.records r.spare in
    subst (Writes c.args.at_sync begun) (sym ens.pass)
    (writes-as c.args.at_sync
    (λ (k : Known). BeginsOver drive c.args.bucket both.two.seen both.two.start.value taken.opened.store k taken.opened.points taken.opened.latest taken.opened.records)
    begun
    (λ k is. begins-placed drive c.args.bucket both.one.seen both.two.seen both.one.log both.two.log both.one.start.value both.two.start.value
    side.Second r.which taken.opened.store r.store k k taken.opened.points r.points
    taken.opened.latest r.latest taken.opened.records r.records taken.spare r.spare
    ens.which ens.store refl ens.points ens.latest ens.records ens.spare
    (record {
      may = subst (λ (which : Which). Chooses both.one.seen both.two.seen (Some which)) c.in-Some-Second.field-0-is c.in-Some-Second.ensures;
      begins = is;
      cleared = c.in-Ok-go_on_over.ensures.cleared.0;
      keeps = c.in-Ok-go_on_over.ensures.cleared.1;
    })) taken.opened.pass c.in-Ok-go_on_over.ensures.begins)
