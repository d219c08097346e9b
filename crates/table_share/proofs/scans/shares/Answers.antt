use Rattle.std.proofs.Common.{rules}
use Rattle.table_share.proofs.scans.shares.Goals as goal

pub returns-then-first-hi : goal.returns-then-first-hi
returns-then-first-hi c = search rules
