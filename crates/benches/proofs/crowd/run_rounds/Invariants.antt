use Rattle.std.proofs.Common.{◌≡◌, false}
use Rattle.benches.proofs.crowd.run_rounds.Given as goal

abbrev pub invariant-loop : goal.invariant-loop
invariant-loop g l = (l.pass.lock ≡ l.initial.pass.lock) × (l.pass.holds ≡ false) × (l.pass.parts ≡ l.initial.pass.parts)
