use Rattle.store_client.proofs.Later.{report-later, stays-guest}
use Rattle.store_client.proofs.guest.Guest.report.Goals as goal

pub invariant_of-behind-self : goal.invariant_of-behind-self
invariant_of-behind-self g c =
    let old = c.behind-self.inside.client in
    let new = c.report.new.self in
    stays-guest g.L.Lender.store old new c.behind-self.invariant c.report.ensures.client (report-later g.I.Index.WIDTH c.args.id c.args.at c.args.moment old new c.report.result c.report.ensures.reports)
