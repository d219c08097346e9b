use Rattle.std.proofs.Common.{ap}
use Rattle.point_table.specs.Splits.{splits_of}
use Rattle.point_table.specs.TableView.{TableView}
use Rattle.point_table.specs.Plans.{plan_of}
use Rattle.point_table.proofs.PlanSteps.{draft_of}
use Rattle.point_table.proofs.table.PointTable.draft.Goals as goal

pub answers-requires-clause-planned : goal.answers-requires-clause-planned
answers-requires-clause-planned g c = c.in_ok-plan.ensures.planned (splits_of c.args.begun.now)

pub returns : goal.returns
returns g c =
    draft_of g.I.Index.WIDTH c.self.inside.size (splits_of c.args.begun.now) c.args.self.now c.args.ops.now (plan_of g.I.Index.leaves c.answers.new.plan) c.in_ok-answers.answers.items c.in_ok-answers.ensures
    (ap (λ (t : TableView). t.size) c.self.view_is)
