use Rattle.std.proofs.Common.{sym, subst}
use Rattle.std.proofs.lemmas.Result.{IfOk-weaker, IfErr-weaker}
use Rattle.recovery.specs.declared.heads.Head.{Head}
use Rattle.recovery.specs.Headers.{HasHead, RefusesHead}
use Rattle.recovery.proofs.PieceLemmas.{passed_on}
use Rattle.recovery.proofs.WantedLemmas.{known_for}
use Rattle.recovery.proofs.WidthLemmas.{is_other, fails_head}
use Rattle.recovery.proofs.heads.read_wanted.Goals as goal

pub returns-clause-ok : goal.returns-clause-ok
returns-clause-ok g c =
    let head = c.in_ok-head.head in
    IfOk-weaker c.wanted.result _ _ (λ h is. subst (λ (x : Head). HasHead c.args.oldest c.args.wanted c.args.len (g.D.LogDisk.drive c.args.disk.now) x.version x.width) (sym is.0) (record {
      is_wanted = is.1;
      fits = is.2;
      known = known_for c.args.wanted c.requires.width head.width is.2;
      long = c.in_ok-head.ensures.ok.0;
      has = c.in_ok-head.ensures.ok.1;
    })) c.wanted.ensures.ok

pub returns-clause-err : goal.returns-clause-err
returns-clause-err g c =
    let head = c.in_ok-head.head in
    IfErr-weaker c.wanted.result _ _ (λ e is. subst (RefusesHead c.args.oldest c.args.wanted (g.D.LogDisk.drive c.args.disk.now)) (sym is.0) (record {
      shows = λ xs told most. is_other head.version head.width xs (c.in_ok-head.ensures.ok.1 xs told) c.args.oldest c.args.wanted most is.1;
      head = tt;
      may = λ most. is.1;
      sound = λ other. cc other;
    })) c.wanted.ensures.err

pub returns-in_err-head-clause-err : goal.returns-in_err-head-clause-err
returns-in_err-head-clause-err g c =
    passed_on c.from_residual.result _ _ c.from_residual.ensures.1 (fails_head c.args.oldest c.args.wanted (g.D.LogDisk.drive c.args.disk.now) _ c.in_err-head.ensures.err)
