use Rattle.std.proofs.Common.{sym, ap, ◌∙◌}
use Rattle.point_table.specs.Drafts.{Net}
use Rattle.point_table.specs.Nets.{settle_each}
use Rattle.point_table.proofs.table.net.settle_each.Goals as goal

pub returns-clause-is : goal.returns-clause-is
returns-clause-is c = ap (λ (left : Net). settle_each left c.loop-id.members) (sym c.in-None.ensures.steps.0) ∙ c.loop-id.invariant.0
