use Rattle.pisrakun.specs.Caller.{Keeps}
use Rattle.dispatch.proofs.callers.Caller.dispatch.Given as goal

abbrev pub invariant-loop : goal.invariant-loop
invariant-loop g l = Keeps l.initial.client l.client
