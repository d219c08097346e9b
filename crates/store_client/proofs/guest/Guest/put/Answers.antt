use Rattle.plain_list.specs.declared.ops.Op.TheVariants.{Put}
use Rattle.store_client.specs.Verbs.{put_answer}
use Rattle.store_client.proofs.Later.{asked-later, stays-guest}
use Rattle.store_client.proofs.guest.Guest.put.Goals as goal

pub invariant_of-behind-self : goal.invariant_of-behind-self
invariant_of-behind-self g c =
    let old = c.behind-self.inside.client in
    let new = c.put.new.self in
    stays-guest g.L.Lender.store old new c.behind-self.invariant c.put.ensures.client (asked-later put_answer g.I.Index.WIDTH (Put c.args.id c.args.at c.args.moment) old new c.put.result c.put.ensures.asked)
