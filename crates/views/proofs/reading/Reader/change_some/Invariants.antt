use Rattle.store_client.specs.Caller.{Keeps}
use Rattle.views.proofs.reading.Reader.change_some.Given as goal

abbrev pub invariant-loop-change : goal.invariant-loop-change
invariant-loop-change g l = Keeps l.initial.client l.client
