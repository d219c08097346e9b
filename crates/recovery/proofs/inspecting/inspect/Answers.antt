use Rattle.std.proofs.Common.{Some, sym, subst}
use Rattle.recovery.specs.Reading.{FindsWanted}
use Rattle.recovery.proofs.PieceLemmas.{passed_on}
use Rattle.recovery.proofs.inspecting.inspect.Goals as goal

pub returns-in_err-found-clause-refused : goal.returns-in_err-found-clause-refused
returns-in_err-found-clause-refused g c =
    passed_on c.from_residual.result _ _ c.from_residual.ensures.1 c.in_err-found.ensures.refused

pub returns-clause-found : goal.returns-clause-found
returns-clause-found g c =
    let found = c.in_ok-found.ensures.found in
    subst (λ w. FindsWanted 1 (Some c.args.width) c.args.most (g.D.LogDisk.drive c.args.disk.now) w c.in_ok-found.found.seen) (sym found.fits) found
