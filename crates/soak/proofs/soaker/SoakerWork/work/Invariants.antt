use Rattle.store_client.specs.Caller.{Keeps}
use Rattle.soak.proofs.soaker.SoakerWork.work.Given as goal

abbrev pub invariant-loop : goal.invariant-loop
invariant-loop g l = Keeps l.initial.client l.client
