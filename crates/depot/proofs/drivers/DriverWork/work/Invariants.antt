use Rattle.pisrakun.specs.Caller.{Keeps}
use Rattle.depot.proofs.drivers.DriverWork.work.Given as goal

abbrev pub invariant-loop-round : goal.invariant-loop-round
invariant-loop-round g l = Keeps l.initial.client l.client
