use Rattle.std.proofs.Common.{length}
use Rattle.kd_trie.proofs.stem.+unwound.Given as goal

abbrev pub decreases-unwound : goal.decreases-unwound
decreases-unwound l = length l.sides.now
