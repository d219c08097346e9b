use Rattle.plain_list.specs.declared.ops.Op.TheVariants.{Find}
use Rattle.store_client.specs.Verbs.{at_answer}
use Rattle.store_client.proofs.Asks.{told_as}
use Rattle.pisrakun.proofs.object_store.ObjectStore.find.Goals as goal

pub returns-clause-asked : goal.returns-clause-asked
returns-clause-asked g c = told_as at_answer g.I.Index.WIDTH (Find c.args.id) c.args.self.now c.ask.new.self c.in_ok-reply.reply c.at_reply.result c.at_reply.ensures c.in_ok-reply.ensures.asked
