use Rattle.pisrakun.specs.Caller.{Keeps}
use Rattle.callers.proofs.work.Caller.call_at_pace.Given as goal

abbrev pub invariant-loop-row : goal.invariant-loop-row
invariant-loop-row g l = Keeps l.initial.client l.client
