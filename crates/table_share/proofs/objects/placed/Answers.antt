use Rattle.std.proofs.Common.{rules}
use Rattle.table_share.proofs.objects.placed.Goals as goal

pub returns : goal.returns
returns c = search rules
