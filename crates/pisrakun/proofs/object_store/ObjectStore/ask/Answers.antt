use Rattle.pisrakun.proofs.Exact.{does-now}
use Rattle.pisrakun.proofs.object_store.ObjectStore.ask.Goals as goal

pub returns-clause-now : goal.returns-clause-now
returns-clause-now g c = does-now g.I.Index.WIDTH c.args.op.now c.args.self.now c.ask_over.new.self c.ask_over.ensures.whole c.ask_over.result c.ask_over.ensures.asked
