use Rattle.plain_list.specs.declared.ops.Op.TheVariants.{Near}
use Rattle.store_client.specs.Verbs.{nearest_answer}
use Rattle.store_client.proofs.Asks.{told_as}
use Rattle.pisrakun.proofs.object_store.ObjectStore.nearest.Goals as goal

pub returns-clause-asked : goal.returns-clause-asked
returns-clause-asked g c = told_as nearest_answer g.I.Index.WIDTH (Near c.args.at c.args.k) c.args.self.now c.ask.new.self c.in_ok-reply.reply c.nearest_reply.result c.nearest_reply.ensures c.in_ok-reply.ensures.asked
