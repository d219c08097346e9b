use Rattle.pisrakun.proofs.Exact.{syncs-same}
use Rattle.pisrakun.proofs.object_store.ObjectStore.sync.Goals as goal

pub returns-clause-now : goal.returns-clause-now
returns-clause-now g c = rw (← c.self.view_is) (syncs-same c.self.inside.pass c.sync.new.pass c.sync.result c.self.invariant.parts c.sync.ensures.synced).world
