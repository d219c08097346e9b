use Rattle.std.proofs.Common.{subst}
use Rattle.disk_trait.specs.Moments.{LeavesOnly}
use Rattle.split_log.specs.LogText.{HoldsAllOrNone}
use Rattle.kept_log.proofs.holding.hold.Goals as goal

pub returns-clause-any_moment : goal.returns-clause-any_moment
returns-clause-any_moment g c w before log =
    subst (λ l. LeavesOnly (g.D.LogDisk.drive c.args.log.now.disk) (g.D.LogDisk.drive c.write-written.new.log.disk) (HoldsAllOrNone w before l)) c.push.ensures (c.write-written.ensures.any_moment w before log)
