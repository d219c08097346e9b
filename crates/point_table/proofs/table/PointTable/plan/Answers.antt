use Rattle.std.proofs.Common.{ap}
use Rattle.point_table.proofs.PlanSteps.{planned_first}
use Rattle.point_table.proofs.table.PointTable.plan.Goals as goal

pub returns-clause-planned : goal.returns-clause-planned
returns-clause-planned g c splits =
    let inside = c.self.inside in
    rw (← c.self.view_is)
    (planned_first g.I.Index.leaves g.I.Index.WIDTH splits inside
    (record { left = c.new.result.entries; leaves = g.I.Index.leaves c.in_ok-share.field-0; names = c.in_ok-copy.field-0.names; len = c.len.result }) c.self.invariant c.new.ensures.empty c.len.ensures.len c.in_ok-share.ensures (ap (λ o. o.names) c.in_ok-copy.ensures))
