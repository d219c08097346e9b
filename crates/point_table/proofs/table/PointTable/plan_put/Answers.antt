use Rattle.std.proofs.Common.{◌≡◌, ◌+◌, None, refl, sym, ap, ◌∙◌}
use Rattle.zorder.specs.Key.{key_of}
use Rattle.plain_list.specs.World.{places_of, position_of}
use Rattle.point_table.specs.Crowds.{crowded_of}
use Rattle.point_table.specs.Drafts.{after_net}
use Rattle.point_table.specs.Plans.{plan_of}
use Rattle.point_table.specs.Splits.{splits_of}
use Rattle.point_table.specs.TableView.{TableView}
use Rattle.point_table.proofs.PlacesAfter.{place-none}
use Rattle.point_table.proofs.PlanSteps.{next_put}
use Rattle.point_table.proofs.RowSteps.{if_some, put_after}
use Rattle.point_table.proofs.TableSteps.{row_absent}
use Rattle.point_table.proofs.table.PointTable.plan_put.Goals as goal

pub put_row-requires-clause-absent : goal.put_row-requires-clause-absent
put_row-requires-clause-absent g c =
    let world = after_net c.args.plan.now.left.entries c.args.self.now.world in
    let none : position_of world c.args.id ≡ None = sym c.left.ensures ∙ c.in_default.is in
    rw (c.change-put.ensures.row, c.key.ensures.sum) (if_some _ _ (row_absent (places_of world) (g.I.Index.leaves c.args.plan.now.index) c.args.id c.args.to.at c.requires.rows (place-none world c.args.id none)))

pub returns : goal.returns
returns g c =
    let w = g.I.Index.WIDTH in
    let plan = c.args.plan.now in
    let table = c.args.self.now in
    let id = c.args.id in
    let world = after_net plan.left.entries table.world in
    let size : c.self.inside.size ≡ table.size = ap (λ (t : TableView). t.size) c.self.view_is in
    let key : c.key.result ≡ key_of c.args.to.at = c.key.ensures.sum in
    let none : position_of world id ≡ None = sym c.left.ensures ∙ c.in_default.is in
    let change = rw (c.change-put.ensures.row, key) at c.in_ok-count.ensures.ok in
    let keeps = rw key at c.change-put.ensures.keeps in
    let marks = rw (key, c.put_row.ensures.crowded.0) at c.mark_come.ensures in
    let was = c.requires.crowded ∙ ap (λ s. crowded_of w s (g.I.Index.leaves plan.index)) (sym size) in
    let it =
    put_after w c.self.inside.size (splits_of c.args.begun.now) c.change-put.result.keeps_base (g.I.Index.leaves plan.index) (g.I.Index.leaves c.put_row.new.index) world plan.crowded.names c.mark_come.new.crowded.names
    (g.met.I.Index.are_leaves plan.index) c.requires.rows was id c.args.to none change keeps marks in
    next_put w c.self.inside.size (splits_of c.args.begun.now) table id c.args.to (plan_of g.I.Index.leaves plan)
    (record { left = c.leave.new.left.entries; leaves = g.I.Index.leaves c.put_row.new.index; names = c.mark_come.new.crowded.names; len = plan.len + 1 }) c.requires size c.coordinates_fit.ensures none c.if-plan-ge-MOST_MEMBERS.false refl c.in_ok-leave.ensures it
