use Rattle.std.proofs.Common.{◌+◌, refl, sym, ◌∙◌, ap, subst, arith}
use Rattle.split_log.specs.LogText.{HoldsAllOrNone}
use Rattle.split_log.specs.LogView.{KeepsLog}
use Rattle.split_log.proofs.Cells.{length-log}
use Rattle.split_log.proofs.Kept.{kept_more, leaves_now, if_ok, if_err, same_number}
use Rattle.split_log.proofs.Adding.{ready-for, some-cells, length-behind, four-calls}
use Rattle.split_log.proofs.log.SplitLog.append_waiting.Goals as goal

pub place-requires-clause-whole : goal.place-requires-clause-whole
place-requires-clause-whole g c xs told =
    length-log c.self.inside.cells xs ((c.self.invariant.log (ap (λ v. v.failed) c.self.view_is ∙ c.requires.open)).text xs told)

pub place-requires-clause-small : goal.place-requires-clause-small
place-requires-clause-small g c =
    omega (
      arith,
      c.self.invariant.few,
      c.if-self-more-gt-MOST_CELLS.false,
      c.len-more.ensures.len,
      length-behind c.args.waiting.now c.text.result.now (some-cells c.args.waiting.now (λ e. c.if-more-eq0.false (c.len-more.ensures.len ∙ e))) c.text.ensures.text,
    )

pub returns-then-is_err-clause-any_moment : goal.returns-then-is_err-clause-any_moment
returns-then-is_err-clause-any_moment g c =
    rw (← c.self.view_is) (λ w before log. c.place.ensures.any_moment w before c.args.waiting.now
    (ready-for w before c.args.waiting.now c.text.result.now (g.D.LogDisk.drive c.self.inside.disk) log c.text.ensures.fits (λ e. c.if-more-eq0.false (c.len-more.ensures.len ∙ e)) c.text.ensures.text))

pub returns-then-is_err-clause-disk : goal.returns-then-is_err-clause-disk
returns-then-is_err-clause-disk g c =
    let failed = sym c.is_err.ensures.value ∙ c.if-is_err.true in
    rw (← c.self.view_is) (λ number same. record {
      named = same_number c.self.inside.cells number same;
      kept = refl;
      count = refl;
      told = c.place.ensures.told;
      rose = if_err c.place.result _ failed c.place.ensures.cause.failed;
      file = c.place.ensures.cause.file;
      either = λ w before log.
          leaves_now (g.D.LogDisk.drive c.self.inside.disk) (g.D.LogDisk.drive c.place.new.disk) (HoldsAllOrNone w before c.args.waiting.now) (g.met.D.LogDisk.keeps_laws c.place.new.disk)
          (c.place.ensures.any_moment w before c.args.waiting.now
          (ready-for w before c.args.waiting.now c.text.result.now (g.D.LogDisk.drive c.self.inside.disk) log c.text.ensures.fits (λ e. c.if-more-eq0.false (c.len-more.ensures.len ∙ e)) c.text.ensures.text));
      broken =
          let broke = if_err c.place.result _ failed c.place.ensures.unplaced in
          record {
            went_well = broke.went_well;
            stops = broke.stops;
            leaves = λ w before log. broke.leaves w before c.args.waiting.now
                (ready-for w before c.args.waiting.now c.text.result.now (g.D.LogDisk.drive c.self.inside.disk) log c.text.ensures.fits (λ e. c.if-more-eq0.false (c.len-more.ensures.len ∙ e)) c.text.ensures.text);
          };
    })

pub invariant_of-self-2 : goal.invariant_of-self-2
invariant_of-self-2 g c =
    let fine = sym c.is_err.ensures.value ∙ c.if-is_err.false in
    record {
      few = omega (arith, c.self.invariant.few, c.if-self-more-gt-MOST_CELLS.false, c.len-more.ensures.len);
      log = λ still. subst (λ n. KeepsLog (c.self.inside.cells + n) (g.D.LogDisk.drive c.place.new.disk)) (sym c.len-more.ensures.len)
          (kept_more c.self.inside.cells c.args.waiting.now (g.D.LogDisk.drive c.self.inside.disk) (g.D.LogDisk.drive c.place.new.disk) (c.self.invariant.log still) c.place.ensures.told
          (λ w before log. if_ok c.place.result _ fine c.place.ensures.placed w before c.args.waiting.now
          (ready-for w before c.args.waiting.now c.text.result.now (g.D.LogDisk.drive c.self.inside.disk) log c.text.ensures.fits (λ e. c.if-more-eq0.false (c.len-more.ensures.len ∙ e)) c.text.ensures.text)));
    }

pub returns-clause-any_moment : goal.returns-clause-any_moment
returns-clause-any_moment g c =
    rw (← c.self.view_is) (λ w before log. c.place.ensures.any_moment w before c.args.waiting.now
    (ready-for w before c.args.waiting.now c.text.result.now (g.D.LogDisk.drive c.self.inside.disk) log c.text.ensures.fits (λ e. c.if-more-eq0.false (c.len-more.ensures.len ∙ e)) c.text.ensures.text))

pub returns-clause-ok : goal.returns-clause-ok
returns-clause-ok g c =
    let fine = sym c.is_err.ensures.value ∙ c.if-is_err.false in
    rw (← c.self.view_is) (record {
      count = ap (λ n. c.self.inside.cells + n) c.len-more.ensures.len;
      whole = ap (λ v. v.failed) c.self.view_is ∙ c.requires.open;
      log = λ w before log. if_ok c.place.result _ fine c.place.ensures.placed w before c.args.waiting.now
          (ready-for w before c.args.waiting.now c.text.result.now (g.D.LogDisk.drive c.self.inside.disk) log c.text.ensures.fits (λ e. c.if-more-eq0.false (c.len-more.ensures.len ∙ e)) c.text.ensures.text);
      told = c.place.ensures.told;
      calls = four-calls c.args.waiting.now (g.D.LogDisk.drive c.self.inside.disk) (g.D.LogDisk.drive c.place.new.disk) (λ e. c.if-more-eq0.false (c.len-more.ensures.len ∙ e)) (if_ok c.place.result _ fine c.place.ensures.calls);
      same = if_ok c.place.result _ fine c.place.ensures.cause.same;
      file = c.place.ensures.cause.file;
    })
