use Rattle.std.proofs.Common.{rules}
use Rattle.prefix_names.proofs.distances.dist.Goals as goal

pub returns-clause-sum : goal.returns-clause-sum
returns-clause-sum c = search rules
