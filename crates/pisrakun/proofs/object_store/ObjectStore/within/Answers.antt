use Rattle.plain_list.specs.declared.ops.Op.TheVariants.{Within}
use Rattle.store_client.specs.Verbs.{listed_answer}
use Rattle.store_client.proofs.Asks.{told_as}
use Rattle.pisrakun.proofs.object_store.ObjectStore.within.Goals as goal

pub returns-clause-asked : goal.returns-clause-asked
returns-clause-asked g c = told_as listed_answer g.I.Index.WIDTH (Within c.args.region) c.args.self.now c.ask.new.self c.in_ok-reply.reply c.listed_reply.result c.listed_reply.ensures c.in_ok-reply.ensures.asked
