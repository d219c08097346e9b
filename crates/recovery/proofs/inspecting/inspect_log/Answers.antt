use Rattle.std.proofs.Common.{Err, ap, lit≤}
use Rattle.recovery.proofs.PieceLemmas.{passed_on}
use Rattle.recovery.proofs.WantedLemmas.{refuses_read}
use Rattle.recovery.proofs.inspecting.inspect_log.Goals as goal

pub returns-in_err-found-clause-refused : goal.returns-in_err-found-clause-refused
returns-in_err-found-clause-refused g c =
    passed_on c.from_residual.result _ _ c.from_residual.ensures.1
    (refuses_read 1 c.args.wanted.width c.args.wanted.most (g.D.LogDisk.drive c.args.disk.now) (g.D.LogDisk.drive c.read_log.new.disk) _ (lit≤ tt) c.in_err-found.ensures.fault c.in_err-found.ensures.may
    (λ e. c.in_err-found.ensures.reads.failed (ap (λ x. Err x) e)))

pub returns-clause-found : goal.returns-clause-found
returns-clause-found g c = c.in_ok-found.ensures.found.log
