use Rattle.pisrakun.proofs.Exact.{does-all-now}
use Rattle.pisrakun.proofs.object_store.ObjectStore.apply.Goals as goal

pub returns-clause-now : goal.returns-clause-now
returns-clause-now g c = does-all-now g.I.Index.WIDTH c.args.batch.now c.args.self.now c.apply_whole.new.self c.apply_whole.ensures.whole c.apply_whole.result c.apply_whole.ensures.applies
