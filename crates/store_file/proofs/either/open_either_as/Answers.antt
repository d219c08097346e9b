use Rattle.std.proofs.Common.{◌≡◌, inr, ◌∙◌, ℕ, true, sym, subst, arith, rules}
use Rattle.std.proofs.lemmas.Grind.{common_steps}
use mathlib.Core.Bool.{true≢false}
use Rattle.store_file.specs.Either.{BeginsEither, OpensEither, RefusesBoth}
use Rattle.store_file.specs.Files.{OpensFile, CanOpen, ShowsFault}
use Rattle.store_file.specs.Refused.{is_bucket}
use Rattle.store_file.proofs.EitherFacts.{begins-either, neither-begun, neither-free, refuses-both}
use Rattle.store_file.proofs.StoreFacts.{opened-log, is-first}
use Rattle.store_file.proofs.Results.{ok-with, err-with}
use Rattle.store_file.proofs.WaitingFacts.{writes-as, writes-first}
use Rattle.book_lock.specs.Pass.{Known}
use Rattle.store_file.proofs.either.open_either_as.Goals as goal

pub returns-in-Ok-clause-opened : goal.returns-in-Ok-clause-opened
returns-in-Ok-clause-opened g c =
    let drive = g.D.LogDisk.drive in
    let w = g.I.Index.WIDTH in
    let one = c.in-Ok.both.one in
    let two = c.in-Ok.both.two in
    let opens = subst (λ (w : ℕ). OpensFile w c.args.first_file.now (drive c.args.first) (drive one.start.value) (drive one.log.disk) one.seen) c.WIDTH.ensures c.in-Ok.ensures.one in
    let besides = subst (λ (w : ℕ). OpensFile w c.args.second_file.now (drive c.args.second) (drive two.start.value) (drive two.log.disk) two.seen) c.WIDTH.ensures c.in-Ok.ensures.two in
    let sized : is_bucket c.args.bucket ≡ true = sym c.is_bucket.ensures ∙ c.if-not-is_bucket.false in
    ok-with _ _
    (λ o begins. writes-as c.args.at_sync
    (λ (k : Known). BeginsEither drive c.args.bucket one.seen two.seen one.log two.log one.start.value two.start.value o.which o.store k o.points o.latest o.records o.spare)
    (λ (k : Known). OpensEither drive w c.args.bucket c.args.first_file.now c.args.second_file.now c.args.first c.args.second o.which o.store k o.points o.latest o.records o.spare)
    (λ k is. begins-either drive g.met.D.LogDisk.keeps_laws w c.args.bucket sized c.args.first_file.now c.args.second_file.now c.args.first c.args.second one.start.value two.start.value one.seen two.seen one.log two.log
    opens besides c.in-Ok.ensures.logs.0 c.in-Ok.ensures.logs.2 o.which o.store k o.points o.latest o.records o.spare is) o.pass begins)
    c.go_on_over_either.result c.go_on_over_either.ensures.begins

pub returns-in-Ok-clause-first : goal.returns-in-Ok-clause-first
returns-in-Ok-clause-first g c =
    let one = c.in-Ok.both.one in
    let two = c.in-Ok.both.two in
    ok-with _ _
    (λ o begins. writes-first c.args.at_sync o.store
    (λ (k : Known). BeginsEither g.D.LogDisk.drive c.args.bucket one.seen two.seen one.log two.log one.start.value two.start.value o.which o.store k o.points o.latest o.records o.spare)
    (λ k is. is-first o.store _ k is.begins.pass_is) o.pass begins)
    c.go_on_over_either.result c.go_on_over_either.ensures.begins

pub returns-in-Ok-clause-refused : goal.returns-in-Ok-clause-refused
returns-in-Ok-clause-refused g c =
    let drive = g.D.LogDisk.drive in
    let w = g.I.Index.WIDTH in
    let one = c.in-Ok.both.one in
    let two = c.in-Ok.both.two in
    let opens = subst (λ (w : ℕ). OpensFile w c.args.first_file.now (drive c.args.first) (drive one.start.value) (drive one.log.disk) one.seen) c.WIDTH.ensures c.in-Ok.ensures.one in
    let besides = subst (λ (w : ℕ). OpensFile w c.args.second_file.now (drive c.args.second) (drive two.start.value) (drive two.log.disk) two.seen) c.WIDTH.ensures c.in-Ok.ensures.two in
    let sized : is_bucket c.args.bucket ≡ true = sym c.is_bucket.ensures ∙ c.if-not-is_bucket.false in
    record {
      refused = err-with _ _
          (λ e is. neither-begun drive g.met.D.LogDisk.keeps_laws w c.args.bucket sized c.args.first_file.now c.args.second_file.now c.args.first c.args.second one.start.value two.start.value one.seen two.seen one.log two.log
          opens besides c.in-Ok.ensures.logs.0 c.in-Ok.ensures.logs.2 e.first e.second e.cause is)
          c.go_on_over_either.result c.go_on_over_either.ensures.refused;
      bucket = λ other. absurd (true≢false (sym sized ∙ other));
      one_file = first_of (search rules, grind (arith, common_steps));
      exact_first = λ fault size apart shows. absurd (c.in-Ok.ensures.exact_first fault (subst (λ (w : ℕ). ShowsFault w (drive c.args.first) fault) (sym c.WIDTH.ensures) shows));
      exact_second = λ fault size apart good shows. absurd (c.in-Ok.ensures.exact_second fault
          (subst (λ (w : ℕ). CanOpen w (drive c.args.first)) (sym c.WIDTH.ensures) good)
          (subst (λ (w : ℕ). ShowsFault w (drive c.args.second) fault) (sym c.WIDTH.ensures) shows));
      whole = λ size apart good also. err-with _ _
          (λ e is. neither-free drive g.met.D.LogDisk.keeps_laws w c.args.bucket size c.args.first_file.now c.args.second_file.now c.args.first c.args.second one.start.value two.start.value one.seen two.seen one.log two.log
          opens besides c.in-Ok.ensures.logs.0 c.in-Ok.ensures.logs.2 e.first e.second e.cause is)
          c.go_on_over_either.result c.go_on_over_either.ensures.refused;
    }

pub returns-in-Err-clause-refused : goal.returns-in-Err-clause-refused
returns-in-Err-clause-refused g c =
    let drive = g.D.LogDisk.drive in
    let w = g.I.Index.WIDTH in
    let e = c.in-Err.refused in
    let sized : is_bucket c.args.bucket ≡ true = sym c.is_bucket.ensures ∙ c.if-not-is_bucket.false in
    record {
      refused = refuses-both drive w c.args.bucket c.args.first_file.now c.args.second_file.now c.args.first c.args.second e.first e.second e.cause sized
          (subst (λ (w : ℕ). RefusesBoth drive w c.args.first_file.now c.args.second_file.now c.args.first c.args.second e.first e.second e.cause) c.WIDTH.ensures c.in-Err.ensures.refused);
      bucket = λ other. absurd (true≢false (sym sized ∙ other));
      one_file = first_of (search rules, grind (arith, common_steps));
      exact_first = λ fault size apart shows. c.in-Err.ensures.exact_first fault (subst (λ (w : ℕ). ShowsFault w (drive c.args.first) fault) (sym c.WIDTH.ensures) shows);
      exact_second = λ fault size apart good shows. c.in-Err.ensures.exact_second fault
          (subst (λ (w : ℕ). CanOpen w (drive c.args.first)) (sym c.WIDTH.ensures) good)
          (subst (λ (w : ℕ). ShowsFault w (drive c.args.second) fault) (sym c.WIDTH.ensures) shows);
      whole = λ size apart good also. inr (c.in-Err.ensures.whole
          (subst (λ (w : ℕ). CanOpen w (drive c.args.first)) (sym c.WIDTH.ensures) good)
          (subst (λ (w : ℕ). CanOpen w (drive c.args.second)) (sym c.WIDTH.ensures) also));
    }

pub go_on_over_either-requires-clause-one : goal.go_on_over_either-requires-clause-one
go_on_over_either-requires-clause-one g c =
    let drive = g.D.LogDisk.drive in
    let one = c.in-Ok.both.one in
    let opens = subst (λ (w : ℕ). OpensFile w c.args.first_file.now (drive c.args.first) (drive one.start.value) (drive one.log.disk) one.seen) c.WIDTH.ensures c.in-Ok.ensures.one in
    opened-log drive g.I.Index.WIDTH c.args.first_file.now (drive c.args.first) one.start.value one.seen one.log opens (c.in-Ok.ensures.logs.0, c.in-Ok.ensures.logs.1)

pub go_on_over_either-requires-clause-two : goal.go_on_over_either-requires-clause-two
go_on_over_either-requires-clause-two g c =
    let drive = g.D.LogDisk.drive in
    let two = c.in-Ok.both.two in
    let opens = subst (λ (w : ℕ). OpensFile w c.args.second_file.now (drive c.args.second) (drive two.start.value) (drive two.log.disk) two.seen) c.WIDTH.ensures c.in-Ok.ensures.two in
    opened-log drive g.I.Index.WIDTH c.args.second_file.now (drive c.args.second) two.start.value two.seen two.log opens (c.in-Ok.ensures.logs.2, c.in-Ok.ensures.logs.3)
