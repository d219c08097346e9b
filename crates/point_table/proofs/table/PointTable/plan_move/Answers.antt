use Rattle.std.proofs.Common.{◌≡◌, Some, refl, sym, ap, ◌∙◌}
use Rattle.zorder.specs.Key.{key_of, point_of}
use Rattle.plain_list.specs.World.{places_of, position_of}
use Rattle.point_table.specs.Crowds.{crowded_of}
use Rattle.point_table.specs.Drafts.{after_net}
use Rattle.point_table.specs.Plans.{plan_of}
use Rattle.point_table.specs.Splits.{splits_of}
use Rattle.point_table.specs.TableView.{TableView}
use Rattle.point_table.proofs.PlacesAfter.{place-some}
use Rattle.point_table.proofs.PlanSteps.{next_move, next_stay}
use Rattle.point_table.proofs.RowSteps.{if_some, row_elsewhere, move_after}
use Rattle.point_table.proofs.TableSteps.{row_there}
use Rattle.point_table.proofs.Updating.{same_point, other_key}
use Rattle.point_table.proofs.table.PointTable.plan_move.Goals as goal

pub returns-then-eq : goal.returns-then-eq
returns-then-eq g c =
    let plan = c.args.plan.now in
    next_stay g.I.Index.WIDTH (splits_of c.args.begun.now) c.args.self.now c.args.id c.in-Some.old c.args.to (plan_of g.I.Index.leaves plan)
    (record { left = c.leave.new.left.entries; leaves = g.I.Index.leaves plan.index; names = plan.crowded.names; len = plan.len }) c.requires c.coordinates_fit.ensures (sym c.in-Some.ensures) c.if-to-old.false
    (same_point c.in-Some.old.at c.args.to.at (sym c.if-eq.ensures)) c.in_ok-leave.ensures refl refl refl

pub move_row-requires-clause-rows : goal.move_row-requires-clause-rows
move_row-requires-clause-rows g c =
    let world = after_net c.args.plan.now.left.entries c.args.self.now.world in
    let leaves = g.I.Index.leaves c.args.plan.now.index in
    let old = c.in-Some.old in
    let at = c.args.to.at in
    let there = place-some world c.args.id old (sym c.in-Some.ensures) in
    let no = other_key old.at at (sym c.if-eq.ensures) (ap point_of (sym c.key.ensures.sum) ∙ c.key.ensures.back) (ap point_of (sym c.key-2.ensures.sum) ∙ c.key-2.ensures.back) in
    rw (c.change-gone.ensures.row, c.change-put.ensures.row, c.key.ensures.sum, c.key-2.ensures.sum)
    (if_some _ _ (row_there (places_of world) leaves c.args.id old.at c.requires.rows there), if_some _ _ (row_elsewhere (places_of world) leaves c.args.id old.at at c.requires.rows there no))

pub returns : goal.returns
returns g c =
    let w = g.I.Index.WIDTH in
    let plan = c.args.plan.now in
    let table = c.args.self.now in
    let id = c.args.id in
    let old = c.in-Some.old in
    let world = after_net plan.left.entries table.world in
    let size : c.self.inside.size ≡ table.size = ap (λ (t : TableView). t.size) c.self.view_is in
    let from : c.key.result ≡ key_of old.at = c.key.ensures.sum in
    let to : c.key-2.result ≡ key_of c.args.to.at = c.key-2.ensures.sum in
    let there : position_of world id ≡ Some old = sym c.in-Some.ensures in
    let moves = rw (c.change-gone.ensures.row, c.change-put.ensures.row, from, to) at c.in_ok-count.ensures.ok in
    let from_keeps = rw from at c.change-gone.ensures.keeps in
    let to_keeps = rw to at c.change-put.ensures.keeps in
    let marks = rw (from, to, c.move_row.ensures.crowded.0) at c.mark_two.ensures in
    let was = c.requires.crowded ∙ ap (λ s. crowded_of w s (g.I.Index.leaves plan.index)) (sym size) in
    let it =
    move_after w c.self.inside.size (splits_of c.args.begun.now) c.change-gone.result.keeps_base c.change-put.result.keeps_base (g.I.Index.leaves plan.index) (g.I.Index.leaves c.move_row.new.index) world
    plan.crowded.names c.mark_two.new.crowded.names (g.met.I.Index.are_leaves plan.index) c.requires.rows was c.requires.world id old c.args.to there moves from_keeps to_keeps marks in
    next_move w c.self.inside.size (splits_of c.args.begun.now) table id old c.args.to (plan_of g.I.Index.leaves plan)
    (record { left = c.leave-2.new.left.entries; leaves = g.I.Index.leaves c.move_row.new.index; names = c.mark_two.new.crowded.names; len = plan.len }) c.requires size c.coordinates_fit.ensures there c.if-to-old.false refl c.in_ok-leave-2.ensures it
