use Rattle.store_client.specs.Caller.{Keeps}
use Rattle.store_tests.proofs.clients.put_many.Given as goal

abbrev pub invariant-loop-x : goal.invariant-loop-x
invariant-loop-x g l = Keeps l.initial.client l.client
