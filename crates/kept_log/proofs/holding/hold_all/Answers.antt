use Rattle.std.proofs.Common.{subst}
use Rattle.disk_trait.specs.Moments.{LeavesOnly}
use Rattle.split_log.specs.LogText.{HoldsAllOrNone}
use Rattle.kept_log.proofs.holding.hold_all.Goals as goal

pub returns-in-Err-clause-any_moment : goal.returns-in-Err-clause-any_moment
returns-in-Err-clause-any_moment g c w before log =
    subst (λ l. LeavesOnly (g.D.LogDisk.drive c.args.log.now.disk) (g.D.LogDisk.drive c.write.new.log.disk) (HoldsAllOrNone w before l)) c.in-Ok.ensures (c.write.ensures.any_moment w before log)

pub returns-clause-any_moment : goal.returns-clause-any_moment
returns-clause-any_moment g c w before log =
    subst (λ l. LeavesOnly (g.D.LogDisk.drive c.args.log.now.disk) (g.D.LogDisk.drive c.write.new.log.disk) (HoldsAllOrNone w before l)) c.in-Ok.ensures (c.write.ensures.any_moment w before log)
