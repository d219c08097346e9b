use Rattle.plain_list.specs.declared.ops.Op.TheVariants.{Within}
use Rattle.store_client.specs.Verbs.{listed_answer}
use Rattle.store_client.proofs.Later.{asked-later, stays-guest}
use Rattle.store_client.proofs.guest.Guest.within.Goals as goal

pub invariant_of-behind-self : goal.invariant_of-behind-self
invariant_of-behind-self g c =
    let old = c.behind-self.inside.client in
    let new = c.within.new.self in
    stays-guest g.L.Lender.store old new c.behind-self.invariant c.within.ensures.client (asked-later listed_answer g.I.Index.WIDTH (Within c.args.region) old new c.within.result c.within.ensures.asked)
