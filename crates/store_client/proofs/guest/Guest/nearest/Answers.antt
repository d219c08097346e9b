use Rattle.plain_list.specs.declared.ops.Op.TheVariants.{Near}
use Rattle.store_client.specs.Verbs.{nearest_answer}
use Rattle.store_client.proofs.Later.{asked-later, stays-guest}
use Rattle.store_client.proofs.guest.Guest.nearest.Goals as goal

pub invariant_of-behind-self : goal.invariant_of-behind-self
invariant_of-behind-self g c =
    let old = c.behind-self.inside.client in
    let new = c.nearest.new.self in
    stays-guest g.L.Lender.store old new c.behind-self.invariant c.nearest.ensures.client (asked-later nearest_answer g.I.Index.WIDTH (Near c.args.at c.args.k) old new c.nearest.result c.nearest.ensures.asked)
