use Rattle.std.proofs.Common.{rules}
use Rattle.io_edge.proofs.plan.Plan.begin.Goals as goal

pub returns-clause-listed : goal.returns-clause-listed
returns-clause-listed c = search rules
