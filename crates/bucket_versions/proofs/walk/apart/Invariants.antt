use Rattle.std.proofs.Common.{◌≡◌, length}
use Rattle.bucket_versions.specs.Delta.{AreParts, difference}
use Rattle.bucket_versions.proofs.walk.apart.Given as goal

abbrev pub invariant-heads : goal.invariant-heads
invariant-heads l = (difference l.later l.more ≡ difference l.base l.delta) × AreParts l.later l.more

abbrev pub decreases-heads : goal.decreases-heads
decreases-heads l = length l.later
