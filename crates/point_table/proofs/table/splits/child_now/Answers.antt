use Rattle.std.proofs.Common.{rules}
use Rattle.point_table.proofs.table.splits.child_now.Goals as goal

pub caught_up-requires : goal.caught_up-requires
caught_up-requires c = search rules

pub returns : goal.returns
returns c = search rules
