use Rattle.std.proofs.Common.{rules}
use Rattle.split_prepare.proofs.cuts.child_at.Goals as goal

pub returns-then-width-eq1 : goal.returns-then-width-eq1
returns-then-width-eq1 c = search rules
