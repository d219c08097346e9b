use Rattle.plain_list.specs.declared.ops.Op.TheVariants.{Find}
use Rattle.store_client.specs.Verbs.{at_answer}
use Rattle.store_client.proofs.Later.{asked-later, stays-guest}
use Rattle.store_client.proofs.guest.Guest.find.Goals as goal

pub invariant_of-behind-self : goal.invariant_of-behind-self
invariant_of-behind-self g c =
    let old = c.behind-self.inside.client in
    let new = c.find.new.self in
    stays-guest g.L.Lender.store old new c.behind-self.invariant c.find.ensures.client (asked-later at_answer g.I.Index.WIDTH (Find c.args.id) old new c.find.result c.find.ensures.asked)
