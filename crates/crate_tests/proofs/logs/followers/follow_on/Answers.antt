use Rattle.std.specs.Prelude.{refl}
use Rattle.crate_tests.proofs.logs.followers.follow_on.Goals as goal

pub turn-requires-clause-holds : goal.turn-requires-clause-holds
turn-requires-clause-holds g c = c.goes_on.ensures.holds _ _ refl c.in-Ok.ensures.opened.holds
