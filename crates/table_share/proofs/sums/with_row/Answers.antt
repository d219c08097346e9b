use Rattle.std.proofs.Common.{rules}
use Rattle.table_share.proofs.sums.with_row.Goals as goal

pub returns : goal.returns
returns c = search rules
