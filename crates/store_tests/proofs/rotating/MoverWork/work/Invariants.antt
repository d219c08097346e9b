use Rattle.store_client.specs.Caller.{Keeps}
use Rattle.store_tests.proofs.rotating.MoverWork.work.Given as goal

abbrev pub invariant-loop-call : goal.invariant-loop-call
invariant-loop-call g l = Keeps l.initial.client l.client
