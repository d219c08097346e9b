use Rattle.store_client.specs.Caller.{Keeps}
use Rattle.soak.proofs.chain.Chain.find.Given as goal

abbrev pub invariant-loop-ahead : goal.invariant-loop-ahead
invariant-loop-ahead g l = Keeps l.initial.client l.client
