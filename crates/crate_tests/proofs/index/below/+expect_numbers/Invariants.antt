use Rattle.std.proofs.Common.{◌-◌, length}
use Rattle.crate_tests.proofs.index.below.+expect_numbers.Given as goal

abbrev pub decreases-expect_numbers : goal.decreases-expect_numbers
decreases-expect_numbers g l = 64 - length l.name.now
