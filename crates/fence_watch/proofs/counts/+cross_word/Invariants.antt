use Rattle.std.proofs.Common.{length}
use Rattle.fence_watch.proofs.counts.+cross_word.Given as goal

abbrev pub decreases-cross_word : goal.decreases-cross_word
decreases-cross_word l = length l.counts.now
