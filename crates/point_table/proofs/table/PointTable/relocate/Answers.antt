use Rattle.std.proofs.Common.{◌≡◌, List, Some, None, refl, sym, ap, ◌∙◌, subst}
use Rattle.std.specs.List.{AllByRecursion}
use Rattle.zorder.specs.Key.{key_of, point_of}
use Rattle.zorder.specs.declared.points.Placed.{Placed}
use Rattle.index_layer.specs.Stands.{HasRowsOf}
use Rattle.plain_list.specs.declared.ops.Op.TheVariants.{Move}
use Rattle.plain_list.specs.declared.ops.Answer.TheVariants.{Moved, Stale, Absent}
use Rattle.plain_list.specs.World.{World, places_of, position_of}
use Rattle.plain_list.proofs.MemberMaps.{with_moved-none}
use Rattle.point_table.specs.Splits.{splits_of}
use Rattle.point_table.proofs.PlacesAfter.{place-some, places-with_moved}
use Rattle.point_table.proofs.TableSteps.{row_there}
use Rattle.point_table.proofs.RowSteps.{if_some, row_elsewhere, move_after}
use Rattle.point_table.proofs.MemberSteps.{put_back}
use Rattle.point_table.proofs.Updating.{updates_none, updates_some, move-absent, move-stale, move-moved, same_table, same_view, same_point, other_key}
use Rattle.point_table.proofs.table.PointTable.relocate.Goals as goal

pub invariant_of-self : goal.invariant_of-self
invariant_of-self g c =
    let inside = c.self.inside in
    let none : position_of inside.members c.args.id ≡ None = sym c.in_default.ensures.found in
    let same : c.replace.new.self ≡ inside.members = c.replace.ensures.moved ∙ with_moved-none c.args.id c.args.to inside.members none in
    same_table g.I.Index.leaves g.I.Index.WIDTH inside (record inside { members = c.replace.new.self }) c.self.invariant same refl refl refl

pub returns-in_default-clause-ok : goal.returns-in_default-clause-ok
returns-in_default-clause-ok g c =
    let inside = c.self.inside in
    let none : position_of inside.members c.args.id ≡ None = sym c.in_default.ensures.found in
    let same : c.replace.new.self ≡ inside.members = c.replace.ensures.moved ∙ with_moved-none c.args.id c.args.to inside.members none in
    rw (← c.self.view_is)
    (updates_none (splits_of c.args.begun.now) _ _ (Move c.args.id c.args.to.at c.args.to.moment) Absent (move-absent inside.members c.args.id c.args.to none) refl
    (same_view g.I.Index.leaves inside (record inside { members = c.replace.new.self }) same refl refl))

pub invariant_of-self-then-to-old : goal.invariant_of-self-then-to-old
invariant_of-self-then-to-old g c =
    let inside = c.self.inside in
    let back : c.replace-then-to-old.new.self ≡ inside.members =
    put_back c.args.id c.in-Some.old c.args.to inside.members c.replace.new.self _ c.self.invariant.world.rising c.in-Some.ensures.found c.replace.ensures.moved c.replace-then-to-old.ensures.moved in
    same_table g.I.Index.leaves g.I.Index.WIDTH inside (record inside { members = c.replace-then-to-old.new.self }) c.self.invariant back refl refl refl

pub returns-then-to-old-clause-ok : goal.returns-then-to-old-clause-ok
returns-then-to-old-clause-ok g c =
    let inside = c.self.inside in
    let old = c.in-Some.old in
    let back : c.replace-then-to-old.new.self ≡ inside.members =
    put_back c.args.id old c.args.to inside.members c.replace.new.self _ c.self.invariant.world.rising c.in-Some.ensures.found c.replace.ensures.moved c.replace-then-to-old.ensures.moved in
    rw (← c.self.view_is)
    (updates_none (splits_of c.args.begun.now) _ _ (Move c.args.id c.args.to.at c.args.to.moment) (Stale old) (move-stale inside.members c.args.id c.args.to old (sym c.in-Some.ensures.found) c.if-to-old.true) refl
    (same_view g.I.Index.leaves inside (record inside { members = c.replace-then-to-old.new.self }) back refl refl))

pub invariant_of-self-then-not-commit : goal.invariant_of-self-then-not-commit
invariant_of-self-then-not-commit g c =
    let inside = c.self.inside in
    let back : c.replace-then-not-commit.new.self ≡ inside.members =
    put_back c.args.id c.in-Some.old c.args.to inside.members c.replace.new.self _ c.self.invariant.world.rising c.in-Some.ensures.found c.replace.ensures.moved c.replace-then-not-commit.ensures.moved in
    same_table g.I.Index.leaves g.I.Index.WIDTH inside (record inside { members = c.replace-then-not-commit.new.self }) c.self.invariant back refl refl refl

pub returns-then-not-commit-clause-err : goal.returns-then-not-commit-clause-err
returns-then-not-commit-clause-err g c =
    let inside = c.self.inside in
    let back : c.replace-then-not-commit.new.self ≡ inside.members =
    put_back c.args.id c.in-Some.old c.args.to inside.members c.replace.new.self _ c.self.invariant.world.rising c.in-Some.ensures.found c.replace.ensures.moved c.replace-then-not-commit.ensures.moved in
    same_view g.I.Index.leaves inside (record inside { members = c.replace-then-not-commit.new.self }) back refl refl ∙ c.self.view_is

pub invariant_of-self-else-not-commit : goal.invariant_of-self-else-not-commit
invariant_of-self-else-not-commit g c =
    let inside = c.self.inside in
    let leaves = g.I.Index.leaves inside.index in
    let old = c.in-Some.old in
    let stays : places_of c.replace.new.self ≡ places_of inside.members =
    ap (λ (ms : World). places_of ms) c.replace.ensures.moved
    ∙ places-with_moved c.args.id old c.args.to inside.members c.self.invariant.world.rising (sym c.in-Some.ensures.found) (same_point old.at c.args.to.at (sym c.if-eq.ensures)) in
    record {
      world = c.replace.ensures.world;
      rows = subst (λ (places : List Placed). AllByRecursion (HasRowsOf places) leaves) (sym stays) c.self.invariant.rows;
      crowded = c.self.invariant.crowded;
    }

pub move_row-requires-clause-rows : goal.move_row-requires-clause-rows
move_row-requires-clause-rows g c =
    let members = c.self.inside.members in
    let leaves = g.I.Index.leaves c.self.inside.index in
    let old = c.in-Some.old in
    let at = c.args.to.at in
    let there = place-some members c.args.id old (sym c.in-Some.ensures.found) in
    let no = other_key old.at at (sym c.if-eq.ensures) (ap point_of (sym c.key.ensures.sum) ∙ c.key.ensures.back) (ap point_of (sym c.key-2.ensures.sum) ∙ c.key-2.ensures.back) in
    rw (c.change-gone.ensures.row, c.change-put.ensures.row, c.key.ensures.sum, c.key-2.ensures.sum)
    (if_some _ _ (row_there (places_of members) leaves c.args.id old.at c.self.invariant.rows there), if_some _ _ (row_elsewhere (places_of members) leaves c.args.id old.at at c.self.invariant.rows there no))

pub invariant_of-self-in-Err : goal.invariant_of-self-in-Err
invariant_of-self-in-Err g c =
    let inside = c.self.inside in
    let back : c.replace-in-Err.new.self ≡ inside.members =
    put_back c.args.id c.in-Some.old c.args.to inside.members c.replace.new.self _ c.self.invariant.world.rising c.in-Some.ensures.found c.replace.ensures.moved c.replace-in-Err.ensures.moved in
    same_table g.I.Index.leaves g.I.Index.WIDTH inside (record inside { index = c.move_row.new.index; members = c.replace-in-Err.new.self; crowded = c.move_row.new.crowded }) c.self.invariant back c.in-Err.ensures.err
    c.move_row.ensures.crowded.0 refl

pub returns-in-Err-clause-err : goal.returns-in-Err-clause-err
returns-in-Err-clause-err g c =
    let inside = c.self.inside in
    let back : c.replace-in-Err.new.self ≡ inside.members =
    put_back c.args.id c.in-Some.old c.args.to inside.members c.replace.new.self _ c.self.invariant.world.rising c.in-Some.ensures.found c.replace.ensures.moved c.replace-in-Err.ensures.moved in
    same_view g.I.Index.leaves inside (record inside { index = c.move_row.new.index; members = c.replace-in-Err.new.self; crowded = c.move_row.new.crowded }) back c.in-Err.ensures.err refl ∙ c.self.view_is

pub invariant_of-self-in-Ok : goal.invariant_of-self-in-Ok
invariant_of-self-in-Ok g c =
    let inside = c.self.inside in
    let id = c.args.id in
    let old = c.in-Some.old in
    let from : c.key.result ≡ key_of old.at = c.key.ensures.sum in
    let to : c.key-2.result ≡ key_of c.args.to.at = c.key-2.ensures.sum in
    let there : position_of inside.members id ≡ Some old = sym c.in-Some.ensures.found in
    let moves = rw (c.change-gone.ensures.row, c.change-put.ensures.row, from, to) at c.in-Ok.ensures.ok in
    let from_keeps = rw from at c.change-gone.ensures.keeps in
    let to_keeps = rw to at c.change-put.ensures.keeps in
    let marks = rw (from, to, c.move_row.ensures.crowded.0) at c.mark_two.ensures in
    let it =
    move_after g.I.Index.WIDTH inside.size (splits_of c.args.begun.now) c.change-gone.result.keeps_base c.change-put.result.keeps_base (g.I.Index.leaves inside.index) (g.I.Index.leaves c.move_row.new.index) inside.members
    inside.crowded.names c.mark_two.new.crowded.names (g.met.I.Index.are_leaves inside.index) c.self.invariant.rows c.self.invariant.crowded c.self.invariant.world id old c.args.to there moves from_keeps to_keeps marks in
    record {
      world = c.replace.ensures.world;
      rows = subst (λ (ms : World). AllByRecursion (HasRowsOf (places_of ms)) (g.I.Index.leaves c.move_row.new.index)) (sym c.replace.ensures.moved) it.rows;
      crowded = it.crowded;
    }

pub returns-in-Ok-clause-ok : goal.returns-in-Ok-clause-ok
returns-in-Ok-clause-ok g c =
    let inside = c.self.inside in
    let id = c.args.id in
    let old = c.in-Some.old in
    let from : c.key.result ≡ key_of old.at = c.key.ensures.sum in
    let to : c.key-2.result ≡ key_of c.args.to.at = c.key-2.ensures.sum in
    let there : position_of inside.members id ≡ Some old = sym c.in-Some.ensures.found in
    let moves = rw (c.change-gone.ensures.row, c.change-put.ensures.row, from, to) at c.in-Ok.ensures.ok in
    let from_keeps = rw from at c.change-gone.ensures.keeps in
    let to_keeps = rw to at c.change-put.ensures.keeps in
    let marks = rw (from, to, c.move_row.ensures.crowded.0) at c.mark_two.ensures in
    let it =
    move_after g.I.Index.WIDTH inside.size (splits_of c.args.begun.now) c.change-gone.result.keeps_base c.change-put.result.keeps_base (g.I.Index.leaves inside.index) (g.I.Index.leaves c.move_row.new.index) inside.members
    inside.crowded.names c.mark_two.new.crowded.names (g.met.I.Index.are_leaves inside.index) c.self.invariant.rows c.self.invariant.crowded c.self.invariant.world id old c.args.to there moves from_keeps to_keeps marks in
    rw (← c.self.view_is)
    (updates_some (splits_of c.args.begun.now) _ _ (Move id c.args.to.at c.args.to.moment) (Moved old) (move-moved inside.members id c.args.to old there c.if-to-old.false) refl
    (record { world = c.replace.ensures.moved; bases = it.bases; settled = it.settled; size = refl }))
