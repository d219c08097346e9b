use Rattle.plain_list.specs.declared.ops.Op.TheVariants.{Put}
use Rattle.store_client.specs.Verbs.{put_answer}
use Rattle.store_client.proofs.Asks.{told_as}
use Rattle.pisrakun.proofs.object_store.ObjectStore.put.Goals as goal

pub returns-clause-asked : goal.returns-clause-asked
returns-clause-asked g c = told_as put_answer g.I.Index.WIDTH (Put c.args.id c.args.at c.args.moment) c.args.self.now c.ask.new.self c.in_ok-reply.reply c.put_reply.result c.put_reply.ensures c.in_ok-reply.ensures.asked
