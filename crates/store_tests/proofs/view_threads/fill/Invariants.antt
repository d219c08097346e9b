use Rattle.store_client.specs.Caller.{Keeps}
use Rattle.store_tests.proofs.view_threads.fill.Given as goal

abbrev pub invariant-loop-id : goal.invariant-loop-id
invariant-loop-id g l = Keeps l.initial.client l.client
