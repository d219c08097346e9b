use Rattle.std.proofs.Common.{rules}
use Rattle.zorder.proofs.points.Region.has.Goals as goal

pub returns-then-self-at-2 : goal.returns-then-self-at-2
returns-then-self-at-2 c = search rules

pub returns-else-self-at-2 : goal.returns-else-self-at-2
returns-else-self-at-2 c = search rules
