use Rattle.store_client.specs.Caller.{Keeps}
use Rattle.store_tests.proofs.view_threads.MemberWork.work.Given as goal

abbrev pub invariant-loop-round : goal.invariant-loop-round
invariant-loop-round g l = Keeps l.initial.client l.client
