use Rattle.std.proofs.Common.{drop}
use Rattle.point_table.specs.Plans.{plan_of}
use Rattle.point_table.specs.Splits.{splits_of}
use Rattle.point_table.proofs.PlanSteps.{PlansSoFar}
use Rattle.point_table.proofs.table.PointTable.answers.Given as goal

abbrev pub invariant-loop-op : goal.invariant-loop-op
invariant-loop-op g l = PlansSoFar g.I.Index.WIDTH (splits_of l.begun) l.self l.ops (drop l.op-index l.ops) (plan_of g.I.Index.leaves l.plan) l.answers.items
