use Rattle.std.proofs.Common.{rules}
use Rattle.prefix_names.proofs.boxes.cover.Goals as goal

pub returns-then-lo-from : goal.returns-then-lo-from
returns-then-lo-from c = search rules

pub returns-else-lo-from : goal.returns-else-lo-from
returns-else-lo-from c = search rules
