use Rattle.pisrakun.specs.Caller.{Keeps}
use Rattle.dispatch.proofs.callers.Caller.drive.Given as goal

abbrev pub invariant-loop-row : goal.invariant-loop-row
invariant-loop-row g l = Keeps l.initial.client l.client
