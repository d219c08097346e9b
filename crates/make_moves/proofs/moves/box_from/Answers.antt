use Rattle.std.proofs.Common.{rules}
use Rattle.make_moves.proofs.moves.box_from.Goals as goal

pub returns : goal.returns
returns c = search rules
