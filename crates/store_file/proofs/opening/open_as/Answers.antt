use Rattle.std.proofs.Common.{◌≡◌, ◌∙◌, ℕ, inl, true, sym, subst}
use mathlib.Core.Bool.{true≢false}
use Rattle.store_file.specs.declared.faults.OpenCause.TheVariants as cause
use Rattle.store_file.specs.Files.{CanOpen, OpensFile, ShowsFault}
use Rattle.store_file.specs.Refused.{NotOpens, RefusesStore, is_bucket}
use Rattle.store_file.proofs.FileFacts.{memory-refused}
use Rattle.store_file.proofs.Results.{ok-with, err-with}
use Rattle.store_file.specs.Opened.{BeginsOver, OpensStore}
use Rattle.store_file.proofs.StoreFacts.{opens-store, opened-log, refuses-store, is-first}
use Rattle.store_file.proofs.WaitingFacts.{writes-as, writes-first}
use Rattle.book_lock.specs.Pass.{Known}
use Rattle.store_file.proofs.opening.open_as.Goals as goal

pub store_of-requires-clause-opened : goal.store_of-requires-clause-opened
store_of-requires-clause-opened g c =
    opened-log g.D.LogDisk.drive g.I.Index.WIDTH c.args.file.now (g.D.LogDisk.drive c.args.disk) c.in-Ok.opened.start.value c.in-Ok.opened.seen c.in-Ok.opened.log
    (subst (λ (w : ℕ). OpensFile w c.args.file.now (g.D.LogDisk.drive c.args.disk) (g.D.LogDisk.drive c.in-Ok.opened.start.value) (g.D.LogDisk.drive c.in-Ok.opened.log.disk) c.in-Ok.opened.seen) c.WIDTH.ensures c.in-Ok.ensures.opened) c.in-Ok.ensures.log

pub returns-in-Ok-clause-opened : goal.returns-in-Ok-clause-opened
returns-in-Ok-clause-opened g c =
    let opened = c.in-Ok.opened in
    let opens = subst (λ (w : ℕ). OpensFile w c.args.file.now (g.D.LogDisk.drive c.args.disk) (g.D.LogDisk.drive c.in-Ok.opened.start.value) (g.D.LogDisk.drive c.in-Ok.opened.log.disk) c.in-Ok.opened.seen) c.WIDTH.ensures c.in-Ok.ensures.opened in
    let drive = g.D.LogDisk.drive in
    let w = g.I.Index.WIDTH in
    ok-with _ _
    (λ o begins. writes-as c.args.at_sync
    (λ (k : Known). BeginsOver drive c.args.bucket opened.seen opened.start.value o.store k o.points o.latest o.records)
    (λ (k : Known). OpensStore drive w c.args.bucket c.args.file.now (drive c.args.disk) o.store k o.points o.latest o.records)
    (λ k is. opens-store drive w c.args.bucket c.args.file.now (drive c.args.disk) opened.start.value (drive opened.log.disk) opened.seen opens o.store k o.points o.latest o.records is) o.pass begins)
    c.store_of.result c.store_of.ensures.begins

pub returns-in-Ok-clause-first : goal.returns-in-Ok-clause-first
returns-in-Ok-clause-first g c =
    let opened = c.in-Ok.opened in
    ok-with _ _
    (λ o begins. writes-first c.args.at_sync o.store
    (λ (k : Known). BeginsOver g.D.LogDisk.drive c.args.bucket opened.seen opened.start.value o.store k o.points o.latest o.records)
    (λ k is. is-first o.store _ k is.pass_is) o.pass begins)
    c.store_of.result c.store_of.ensures.begins

pub returns-in-Ok-clause-refused : goal.returns-in-Ok-clause-refused
returns-in-Ok-clause-refused g c =
    let drive = g.D.LogDisk.drive in
    let w = g.I.Index.WIDTH in
    let opened = c.in-Ok.opened in
    let sized : is_bucket c.args.bucket ≡ true = sym c.is_bucket.ensures ∙ c.if-not-is_bucket.false in
    let not = memory-refused w c.args.file.now (drive c.args.disk) (drive opened.start.value) (drive opened.log.disk) opened.seen (g.met.D.LogDisk.keeps_laws c.args.disk)
    (subst (λ (w : ℕ). OpensFile w c.args.file.now (g.D.LogDisk.drive c.args.disk) (g.D.LogDisk.drive c.in-Ok.opened.start.value) (g.D.LogDisk.drive c.in-Ok.opened.log.disk) c.in-Ok.opened.seen) c.WIDTH.ensures c.in-Ok.ensures.opened) in
    let refused = refuses-store drive w c.args.bucket c.args.file.now c.args.disk opened.log.disk cause.Memory sized not in
    record {
      refused = err-with _ _
          (λ e back.
          subst (RefusesStore drive w c.args.bucket c.args.file.now c.args.disk e.disk) (sym back.1)
          (subst (λ (d : g.row.D.Denot). RefusesStore drive w c.args.bucket c.args.file.now c.args.disk d cause.Memory) (sym back.0) refused))
          c.store_of.result c.store_of.ensures.back;
      bucket = λ other. absurd (true≢false (sym sized ∙ other));
      exact = λ fault size shows. absurd (c.in-Ok.ensures.exact fault (subst (λ (w : ℕ). ShowsFault w (drive c.args.disk) fault) (sym c.WIDTH.ensures) shows));
      whole = λ size good. err-with _ _ (λ e back. inl back.1) c.store_of.result c.store_of.ensures.back;
    }

pub returns-in-Err-clause-refused : goal.returns-in-Err-clause-refused
returns-in-Err-clause-refused g c =
    let drive = g.D.LogDisk.drive in
    let w = g.I.Index.WIDTH in
    let e = c.in-Err.refused in
    let sized : is_bucket c.args.bucket ≡ true = sym c.is_bucket.ensures ∙ c.if-not-is_bucket.false in
    record {
      refused = refuses-store drive w c.args.bucket c.args.file.now c.args.disk e.disk e.cause sized
          (subst (λ (w : ℕ). NotOpens w c.args.file.now (drive c.args.disk) (drive e.disk) e.cause) c.WIDTH.ensures c.in-Err.ensures.refused);
      bucket = λ other. absurd (true≢false (sym sized ∙ other));
      exact = λ fault size shows. c.in-Err.ensures.exact fault (subst (λ (w : ℕ). ShowsFault w (drive c.args.disk) fault) (sym c.WIDTH.ensures) shows);
      whole = λ size good. c.in-Err.ensures.whole (subst (λ (w : ℕ). CanOpen w (drive c.args.disk)) (sym c.WIDTH.ensures) good);
    }
