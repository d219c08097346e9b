use Rattle.pisrakun.specs.Caller.{Keeps}
use Rattle.batches.proofs.moves.Mover.move_all.Given as goal

abbrev pub invariant-loop-number : goal.invariant-loop-number
invariant-loop-number g l = Keeps l.initial.client l.client
