use Rattle.std.proofs.Common.{◌≡◌, ◌-◌, Some, refl, sym, ap, ◌∙◌}
use Rattle.zorder.specs.Key.{key_of}
use Rattle.plain_list.specs.World.{places_of, position_of}
use Rattle.point_table.specs.Crowds.{crowded_of}
use Rattle.point_table.specs.Drafts.{after_net}
use Rattle.point_table.specs.Plans.{plan_of}
use Rattle.point_table.specs.Splits.{splits_of}
use Rattle.point_table.specs.TableView.{TableView}
use Rattle.point_table.proofs.PlacesAfter.{place-some}
use Rattle.point_table.proofs.PlanSteps.{next_remove}
use Rattle.point_table.proofs.RowSteps.{if_some, gone_after}
use Rattle.point_table.proofs.TableSteps.{row_there}
use Rattle.point_table.proofs.table.PointTable.plan_remove.Goals as goal

pub take_row-requires-clause-present : goal.take_row-requires-clause-present
take_row-requires-clause-present g c =
    let world = after_net c.args.plan.now.left.entries c.args.self.now.world in
    let there : position_of world c.args.id ≡ Some c.in-Some.old = sym c.in-Some.ensures in
    rw (c.change-gone.ensures.row, c.key.ensures.sum) (if_some _ _ (row_there (places_of world) (g.I.Index.leaves c.args.plan.now.index) c.args.id c.in-Some.old.at c.requires.rows (place-some world c.args.id c.in-Some.old there)))

pub returns : goal.returns
returns g c =
    let w = g.I.Index.WIDTH in
    let plan = c.args.plan.now in
    let table = c.args.self.now in
    let id = c.args.id in
    let old = c.in-Some.old in
    let world = after_net plan.left.entries table.world in
    let size : c.self.inside.size ≡ table.size = ap (λ (t : TableView). t.size) c.self.view_is in
    let key : c.key.result ≡ key_of old.at = c.key.ensures.sum in
    let there : position_of world id ≡ Some old = sym c.in-Some.ensures in
    let change = rw (c.change-gone.ensures.row, key) at c.in_ok-take_row.ensures.ok in
    let keeps = rw key at c.change-gone.ensures.keeps in
    let marks = rw (key, c.in_ok-reserve.ensures.names) at c.mark_left.ensures.names in
    let was = c.requires.crowded ∙ ap (λ s. crowded_of w s (g.I.Index.leaves plan.index)) (sym size) in
    let it =
    gone_after w c.self.inside.size (splits_of c.args.begun.now) c.change-gone.result.keeps_base (g.I.Index.leaves plan.index) (g.I.Index.leaves c.take_row.new.self) world plan.crowded.names c.mark_left.new.crowded.names
    (g.met.I.Index.are_leaves plan.index) c.requires.rows was id old there change keeps marks in
    next_remove w c.self.inside.size (splits_of c.args.begun.now) table id old (plan_of g.I.Index.leaves plan)
    (record { left = c.leave.new.left.entries; leaves = g.I.Index.leaves c.take_row.new.self; names = c.mark_left.new.crowded.names; len = plan.len - 1 }) c.requires size there refl c.in_ok-leave.ensures it
