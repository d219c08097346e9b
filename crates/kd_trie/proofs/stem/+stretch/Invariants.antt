use Rattle.std.proofs.Common.{length, ◌-◌}
use Rattle.kd_trie.proofs.stem.+stretch.Given as goal

abbrev pub decreases-stretch : goal.decreases-stretch
decreases-stretch l = 64 - length l.name.now
