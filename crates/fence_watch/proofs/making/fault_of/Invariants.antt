use Rattle.fence_watch.proofs.FaultFacts.{Looked}
use Rattle.fence_watch.proofs.making.fault_of.Given as goal

abbrev pub invariant-loop-number : goal.invariant-loop-number
invariant-loop-number l = Looked l.number l.fences
