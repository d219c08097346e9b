use Rattle.std.proofs.Common.{◌≡◌, true, false, Some, None, Ok, Err, refl, sym, ap, ◌∙◌, subst, if◌then◌else◌}
use Rattle.std.specs.Option.{option_map_or}
use Rattle.std.specs.List.{AllByRecursion}
use Rattle.zorder.specs.Key.{key_of}
use Rattle.plain_list.specs.declared.world.Member.{Member}
use Rattle.index_layer.specs.Stands.{HasRowsOf}
use Rattle.plain_list.specs.declared.ops.Op.TheVariants.{Put}
use Rattle.plain_list.specs.declared.ops.Answer.{Answer}
use Rattle.plain_list.specs.declared.ops.Answer.TheVariants.{Done, Present, Full}
use Rattle.plain_list.specs.World.{World, member_of, places_of, position_of, is_full}
use Rattle.plain_list.specs.Answer.{with_member, with_moved, without, is_change}
use Rattle.point_table.specs.Splits.{splits_of}
use Rattle.point_table.specs.Updates.{TellsIf}
use Rattle.point_table.proofs.PlacesAfter.{place-none}
use Rattle.point_table.proofs.TableSteps.{row_absent}
use Rattle.point_table.proofs.RowSteps.{if_some, put_after}
use Rattle.point_table.proofs.MemberSteps.{without-with_member, with_moved-back}
use Rattle.point_table.proofs.Updating.{updates_none, updates_some, put-full, put-done, same_table, same_view, match_none, match_some}
use Rattle.point_table.proofs.table.PointTable.put.Goals as goal

pub returns-then-is_full-clause-ok : goal.returns-then-is_full-clause-ok
returns-then-is_full-clause-ok g c =
    let world = c.args.self.now.world in
    let full : is_full world ≡ true = sym c.is_full.ensures ∙ c.if-is_full.true in
    let is = c.full.ensures c.args.to.at c.args.to.moment in
    updates_none (splits_of c.args.begun.now) c.args.self.now c.args.self.now (Put c.args.id c.args.to.at c.args.to.moment) c.full.result is (ap is_change is ∙ put-full world c.args.id c.args.to.at c.args.to.moment full) refl

pub invariant_of-self-in-Some : goal.invariant_of-self-in-Some
invariant_of-self-in-Some g c =
    let inside = c.self.inside in
    let id = c.args.id in
    let there : position_of inside.members id ≡ Some c.in-Some.there = sym c.in_ok-there.ensures.ok.found ∙ c.in-Some.is in
    let moved : c.insert.new.self ≡ with_moved id c.args.to inside.members = match_some c.in_ok-there.field-0 c.in-Some.there _ _ c.in_ok-there.ensures.ok.is c.in-Some.is in
    let back : c.replace.new.self ≡ inside.members =
    c.replace.ensures.moved ∙ ap (with_moved id c.in-Some.there) moved ∙ with_moved-back id c.in-Some.there c.args.to inside.members c.self.invariant.world.rising there in
    same_table g.I.Index.leaves g.I.Index.WIDTH inside (record inside { members = c.replace.new.self }) c.self.invariant back refl refl refl

pub returns-in-Some-clause-ok : goal.returns-in-Some-clause-ok
returns-in-Some-clause-ok g c =
    let inside = c.self.inside in
    let id = c.args.id in
    let there : position_of inside.members id ≡ Some c.in-Some.there = sym c.in_ok-there.ensures.ok.found ∙ c.in-Some.is in
    let moved : c.insert.new.self ≡ with_moved id c.args.to inside.members = match_some c.in_ok-there.field-0 c.in-Some.there _ _ c.in_ok-there.ensures.ok.is c.in-Some.is in
    let back : c.replace.new.self ≡ inside.members =
    c.replace.ensures.moved ∙ ap (with_moved id c.in-Some.there) moved ∙ with_moved-back id c.in-Some.there c.args.to inside.members c.self.invariant.world.rising there in
    let is = sym (ap (λ o. option_map_or Present o (if is_full inside.members then Full else Done)) there) in
    rw (← c.self.view_is)
    (updates_none (splits_of c.args.begun.now) _ _ (Put id c.args.to.at c.args.to.moment) (Present c.in-Some.there) is refl (same_view g.I.Index.leaves inside (record inside { members = c.replace.new.self }) back refl refl))

pub put_row-requires-clause-absent : goal.put_row-requires-clause-absent
put_row-requires-clause-absent g c =
    let none : position_of c.self.inside.members c.args.id ≡ None = sym c.in_ok-there.ensures.ok.found ∙ c.in_default.is in
    rw (c.change-put.ensures.row, c.key.ensures.sum) (if_some _ _ (row_absent (places_of c.self.inside.members) (g.I.Index.leaves c.self.inside.index) c.args.id c.args.to.at c.self.invariant.rows (place-none c.self.inside.members c.args.id none)))

pub invariant_of-self-in-Err : goal.invariant_of-self-in-Err
invariant_of-self-in-Err g c =
    let inside = c.self.inside in
    let m : Member = member_of c.args.id c.args.to in
    let none : position_of inside.members c.args.id ≡ None = sym c.in_ok-there.ensures.ok.found ∙ c.in_default.is in
    let added : c.insert.new.self ≡ with_member m inside.members = match_none c.in_ok-there.field-0 _ _ c.in_ok-there.ensures.ok.is c.in_default.is in
    let back : c.remove.new.self ≡ inside.members = c.remove.ensures.gone ∙ ap (without c.args.id) added ∙ without-with_member m inside.members none in
    same_table g.I.Index.leaves g.I.Index.WIDTH inside (record inside { index = c.put_row.new.index; members = c.remove.new.self; crowded = c.put_row.new.crowded }) c.self.invariant back c.in-Err.ensures.err c.put_row.ensures.crowded.0 refl

pub returns-in-Err-clause-err : goal.returns-in-Err-clause-err
returns-in-Err-clause-err g c =
    let inside = c.self.inside in
    let m : Member = member_of c.args.id c.args.to in
    let none : position_of inside.members c.args.id ≡ None = sym c.in_ok-there.ensures.ok.found ∙ c.in_default.is in
    let added : c.insert.new.self ≡ with_member m inside.members = match_none c.in_ok-there.field-0 _ _ c.in_ok-there.ensures.ok.is c.in_default.is in
    let back : c.remove.new.self ≡ inside.members = c.remove.ensures.gone ∙ ap (without c.args.id) added ∙ without-with_member m inside.members none in
    same_view g.I.Index.leaves inside (record inside { index = c.put_row.new.index; members = c.remove.new.self; crowded = c.put_row.new.crowded }) back c.in-Err.ensures.err refl ∙ c.self.view_is

pub invariant_of-self-in-Ok : goal.invariant_of-self-in-Ok
invariant_of-self-in-Ok g c =
    let w = g.I.Index.WIDTH in
    let inside = c.self.inside in
    let id = c.args.id in
    let m : Member = member_of id c.args.to in
    let key : c.key.result ≡ key_of c.args.to.at = c.key.ensures.sum in
    let none : position_of inside.members id ≡ None = sym c.in_ok-there.ensures.ok.found ∙ c.in_default.is in
    let added : c.insert.new.self ≡ with_member m inside.members = match_none c.in_ok-there.field-0 _ _ c.in_ok-there.ensures.ok.is c.in_default.is in
    let change = rw (c.change-put.ensures.row, key) at c.in-Ok.ensures.ok in
    let keeps = rw key at c.change-put.ensures.keeps in
    let marks = rw (key, c.put_row.ensures.crowded.0) at c.mark_come.ensures in
    let it =
    put_after w inside.size (splits_of c.args.begun.now) c.change-put.result.keeps_base (g.I.Index.leaves inside.index) (g.I.Index.leaves c.put_row.new.index) inside.members inside.crowded.names c.mark_come.new.crowded.names
    (g.met.I.Index.are_leaves inside.index) c.self.invariant.rows c.self.invariant.crowded id c.args.to none change keeps marks in
    record {
      world = c.insert.ensures.world;
      rows = subst (λ (ms : World). AllByRecursion (HasRowsOf (places_of ms)) (g.I.Index.leaves c.put_row.new.index)) (sym added) it.rows;
      crowded = it.crowded;
    }

pub returns-in-Ok-clause-ok : goal.returns-in-Ok-clause-ok
returns-in-Ok-clause-ok g c =
    let w = g.I.Index.WIDTH in
    let inside = c.self.inside in
    let id = c.args.id in
    let m : Member = member_of id c.args.to in
    let key : c.key.result ≡ key_of c.args.to.at = c.key.ensures.sum in
    let none : position_of inside.members id ≡ None = sym c.in_ok-there.ensures.ok.found ∙ c.in_default.is in
    let added : c.insert.new.self ≡ with_member m inside.members = match_none c.in_ok-there.field-0 _ _ c.in_ok-there.ensures.ok.is c.in_default.is in
    let change = rw (c.change-put.ensures.row, key) at c.in-Ok.ensures.ok in
    let keeps = rw key at c.change-put.ensures.keeps in
    let marks = rw (key, c.put_row.ensures.crowded.0) at c.mark_come.ensures in
    let it =
    put_after w inside.size (splits_of c.args.begun.now) c.change-put.result.keeps_base (g.I.Index.leaves inside.index) (g.I.Index.leaves c.put_row.new.index) inside.members inside.crowded.names c.mark_come.new.crowded.names
    (g.met.I.Index.are_leaves inside.index) c.self.invariant.rows c.self.invariant.crowded id c.args.to none change keeps marks in
    let room : is_full c.args.self.now.world ≡ false = sym c.is_full.ensures ∙ c.if-is_full.false in
    rw (← c.self.view_is)
    (updates_some (splits_of c.args.begun.now) _ _ (Put id c.args.to.at c.args.to.moment) Done (put-done inside.members id c.args.to.at c.args.to.moment none (rw (← c.self.view_is) at room)) refl
    (record { world = added; bases = it.bases; settled = it.settled; size = refl }))

pub returns-in-Ok-clause-told : goal.returns-in-Ok-clause-told
returns-in-Ok-clause-told g c =
    let inside = c.self.inside in
    let none : position_of inside.members c.args.id ≡ None = sym c.in_ok-there.ensures.ok.found ∙ c.in_default.is in
    let room : is_full c.args.self.now.world ≡ false = sym c.is_full.ensures ∙ c.if-is_full.false in
    let is = put-done inside.members c.args.id c.args.to.at c.args.to.moment none (rw (← c.self.view_is) at room) in
    rw (← c.self.view_is)
    (subst (λ (a : Answer). TellsIf {A = Answer} g.C.Commit.done g.C.Commit.lost (is_change a) c.args.commit.now c.put_row.new.commit (Ok Done)) is c.in-Ok.ensures.told)

pub returns-in-Err-clause-told : goal.returns-in-Err-clause-told
returns-in-Err-clause-told g c =
    let inside = c.self.inside in
    let none : position_of inside.members c.args.id ≡ None = sym c.in_ok-there.ensures.ok.found ∙ c.in_default.is in
    let room : is_full c.args.self.now.world ≡ false = sym c.is_full.ensures ∙ c.if-is_full.false in
    let is = put-done inside.members c.args.id c.args.to.at c.args.to.moment none (rw (← c.self.view_is) at room) in
    rw (← c.self.view_is)
    (subst (λ (a : Answer). TellsIf {A = Answer} g.C.Commit.done g.C.Commit.lost (is_change a) c.args.commit.now c.put_row.new.commit (Err c.in-Err.undone)) is c.in-Err.ensures.told)

pub returns-in-Some-clause-told : goal.returns-in-Some-clause-told
returns-in-Some-clause-told g c =
    let there : position_of c.self.inside.members c.args.id ≡ Some c.in-Some.there = sym c.in_ok-there.ensures.ok.found ∙ c.in-Some.is in
    rw (← c.self.view_is, there) refl

pub returns-then-is_full-clause-told : goal.returns-then-is_full-clause-told
returns-then-is_full-clause-told g c =
    let world = c.args.self.now.world in
    let full : is_full world ≡ true = sym c.is_full.ensures ∙ c.if-is_full.true in
    rw (put-full world c.args.id c.args.to.at c.args.to.moment full) refl
