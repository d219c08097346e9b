use Rattle.store_client.proofs.Later.{stays-guest, sync-later}
use Rattle.store_client.proofs.guest.Guest.sync.Goals as goal

pub invariant_of-behind-self : goal.invariant_of-behind-self
invariant_of-behind-self g c =
    let old = c.behind-self.inside.client in
    let new = c.sync.new.self in
    stays-guest g.L.Lender.store old new c.behind-self.invariant c.sync.ensures.client (sync-later old new c.sync.result c.sync.ensures.synced)
