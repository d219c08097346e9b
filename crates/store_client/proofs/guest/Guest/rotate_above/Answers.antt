use Rattle.store_client.proofs.Later.{stays-guest, rotate-later}
use Rattle.store_client.proofs.guest.Guest.rotate_above.Goals as goal

pub invariant_of-behind-self : goal.invariant_of-behind-self
invariant_of-behind-self g c =
    let old = c.behind-self.inside.client in
    let new = c.rotate_above.new.self in
    stays-guest g.L.Lender.store old new c.behind-self.invariant c.rotate_above.ensures.client (rotate-later g.D.LogDisk.drive g.I.Index.WIDTH c.args.records old new c.rotate_above.result c.rotate_above.ensures.rotated)
