use Rattle.store_client.specs.Caller.{Keeps}
use Rattle.store_tests.proofs.batches.ReporterWork.work.Given as goal

abbrev pub invariant-loop-number : goal.invariant-loop-number
invariant-loop-number g l = Keeps l.initial.client l.client
