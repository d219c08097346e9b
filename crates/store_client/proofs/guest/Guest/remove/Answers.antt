use Rattle.plain_list.specs.declared.ops.Op.TheVariants.{Remove}
use Rattle.store_client.specs.Verbs.{gone_answer}
use Rattle.store_client.proofs.Later.{asked-later, stays-guest}
use Rattle.store_client.proofs.guest.Guest.remove.Goals as goal

pub invariant_of-behind-self : goal.invariant_of-behind-self
invariant_of-behind-self g c =
    let old = c.behind-self.inside.client in
    let new = c.remove.new.self in
    stays-guest g.L.Lender.store old new c.behind-self.invariant c.remove.ensures.client (asked-later gone_answer g.I.Index.WIDTH (Remove c.args.id) old new c.remove.result c.remove.ensures.asked)
