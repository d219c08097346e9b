use Rattle.plain_list.specs.declared.ops.Op.TheVariants.{Move}
use Rattle.store_client.specs.Verbs.{move_answer}
use Rattle.store_client.proofs.Later.{asked-later, stays-guest}
use Rattle.store_client.proofs.guest.Guest.move_to.Goals as goal

pub invariant_of-behind-self : goal.invariant_of-behind-self
invariant_of-behind-self g c =
    let old = c.behind-self.inside.client in
    let new = c.move_to.new.self in
    stays-guest g.L.Lender.store old new c.behind-self.invariant c.move_to.ensures.client (asked-later move_answer g.I.Index.WIDTH (Move c.args.id c.args.at c.args.moment) old new c.move_to.result c.move_to.ensures.asked)
