use Rattle.std.proofs.Common.{length, ◌-◌}
use Rattle.quad_trie.proofs.narrow.+narrowed.Given as goal

abbrev pub decreases-narrowed : goal.decreases-narrowed
decreases-narrowed l = 64 - length l.name
