use Rattle.store_client.specs.Caller.{Keeps}
use Rattle.views.proofs.reading.Reader.write.Given as goal

abbrev pub invariant-loop-milli : goal.invariant-loop-milli
invariant-loop-milli g l = Keeps l.initial.client l.client
