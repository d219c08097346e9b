use Rattle.std.proofs.lemmas.Nat.Bits.{ones_shr}
use Rattle.prefix_names.proofs.regions.low_mask.Goals as goal

pub returns-else-len-eq64 : goal.returns-else-len-eq64
returns-else-len-eq64 c = ones_shr 64 c.args.len c.requires
