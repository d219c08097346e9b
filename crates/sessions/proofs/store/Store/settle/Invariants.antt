use Rattle.sessions.specs.Settles.{Settling}
use Rattle.sessions.proofs.store.Store.settle.Given as goal

abbrev pub invariant-loop : goal.invariant-loop
invariant-loop g l = Settling g.I.Index.WIDTH l.fn.pass l.pass
