use Rattle.store_client.proofs.Splitting.{Splitting}
use Rattle.store_client.proofs.batches.split_some.Given as goal

abbrev pub invariant-loop : goal.invariant-loop
invariant-loop g l = Splitting g.I.Index.WIDTH l.counter l.fn.pass l.pass
