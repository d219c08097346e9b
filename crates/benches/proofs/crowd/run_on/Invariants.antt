use Rattle.std.proofs.Common.{◌≡◌, false}
use Rattle.benches.proofs.crowd.run_on.Given as goal

abbrev pub invariant-loop-round : goal.invariant-loop-round
invariant-loop-round g l = (l.pass.lock ≡ l.initial.pass.lock) × (l.pass.holds ≡ false) × (l.pass.parts ≡ l.initial.pass.parts)
