use Rattle.plain_list.specs.declared.ops.Op.TheVariants.{Move}
use Rattle.store_client.specs.Verbs.{move_answer}
use Rattle.store_client.proofs.Asks.{told_as}
use Rattle.pisrakun.proofs.object_store.ObjectStore.move_to.Goals as goal

pub returns-clause-asked : goal.returns-clause-asked
returns-clause-asked g c = told_as move_answer g.I.Index.WIDTH (Move c.args.id c.args.at c.args.moment) c.args.self.now c.ask.new.self c.in_ok-reply.reply c.move_reply.result c.move_reply.ensures c.in_ok-reply.ensures.asked
