use Rattle.std.proofs.Common.{rules}
use Rattle.prefix_names.proofs.boxes.overlap.Goals as goal

pub returns-then-a_lo-b_hi : goal.returns-then-a_lo-b_hi
returns-then-a_lo-b_hi c = search rules

pub returns-else-a_lo-b_hi : goal.returns-else-a_lo-b_hi
returns-else-a_lo-b_hi c = search rules
