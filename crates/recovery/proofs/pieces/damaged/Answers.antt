use Rattle.std.proofs.Common.{refl}
use Rattle.recovery.proofs.pieces.damaged.Goals as goal

pub returns : goal.returns
returns c = refl
