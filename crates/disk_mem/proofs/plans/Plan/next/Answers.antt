use Rattle.std.proofs.Common.{rules}
use Rattle.disk_mem.proofs.plans.Plan.next.Goals as goal

pub returns-clause-verdict : goal.returns-clause-verdict
returns-clause-verdict c = search rules
