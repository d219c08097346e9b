use Rattle.plain_list.specs.declared.ops.Op.TheVariants.{Remove}
use Rattle.store_client.specs.Verbs.{gone_answer}
use Rattle.store_client.proofs.Asks.{told_as}
use Rattle.pisrakun.proofs.object_store.ObjectStore.remove.Goals as goal

pub returns-clause-asked : goal.returns-clause-asked
returns-clause-asked g c = told_as gone_answer g.I.Index.WIDTH (Remove c.args.id) c.args.self.now c.ask.new.self c.in_ok-reply.reply c.gone_reply.result c.gone_reply.ensures c.in_ok-reply.ensures.asked
