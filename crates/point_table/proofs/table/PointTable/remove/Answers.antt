use Rattle.std.proofs.Common.{◌≡◌, Some, refl, sym, ap, subst, rules}
use Rattle.std.specs.Option.{option_map_or}
use Rattle.std.specs.List.{AllByRecursion}
use Rattle.zorder.specs.Key.{key_of}
use Rattle.index_layer.specs.Stands.{HasRowsOf}
use Rattle.plain_list.specs.declared.ops.Op.TheVariants.{Remove}
use Rattle.plain_list.specs.declared.ops.Answer.TheVariants.{Gone, Absent}
use Rattle.plain_list.specs.World.{World, places_of, position_of, IsWorld}
use Rattle.plain_list.specs.Answer.{without}
use Rattle.plain_list.proofs.Worlds.{IsWorld-without}
use Rattle.point_table.specs.Splits.{splits_of}
use Rattle.point_table.proofs.PlacesAfter.{place-some}
use Rattle.point_table.proofs.TableSteps.{row_there}
use Rattle.point_table.proofs.RowSteps.{if_some, gone_after}
use Rattle.point_table.proofs.Updating.{updates_some}
use Rattle.point_table.proofs.table.PointTable.remove.Goals as goal

pub take_row-requires-clause-present : goal.take_row-requires-clause-present
take_row-requires-clause-present g c =
    let there : position_of c.self.inside.members c.args.id ≡ Some c.in-Some.old = rw (← c.self.view_is) at (sym c.in-Some.ensures) in
    rw (c.change-gone.ensures.row, c.key.ensures.sum) (if_some _ _ (row_there (places_of c.self.inside.members) (g.I.Index.leaves c.self.inside.index) c.args.id c.in-Some.old.at c.self.invariant.rows (place-some c.self.inside.members c.args.id c.in-Some.old there)))

pub invariant_of-self-2 : goal.invariant_of-self-2
invariant_of-self-2 g c =
    let w = g.I.Index.WIDTH in
    let inside = c.self.inside in
    let id = c.args.id in
    let old = c.in-Some.old in
    let key : c.key.result ≡ key_of old.at = c.key.ensures.sum in
    let there : position_of inside.members id ≡ Some old = rw (← c.self.view_is) at (sym c.in-Some.ensures) in
    let change = rw (c.change-gone.ensures.row, key) at c.in_ok-take_row.ensures.ok in
    let keeps = rw key at c.change-gone.ensures.keeps in
    let marks = rw (key, c.in_ok-reserve.ensures.names) at c.mark_left.ensures.names in
    let it =
    gone_after w inside.size (splits_of c.args.begun.now) c.change-gone.result.keeps_base (g.I.Index.leaves inside.index) (g.I.Index.leaves c.take_row.new.self) inside.members inside.crowded.names c.mark_left.new.crowded.names
    (g.met.I.Index.are_leaves inside.index) c.self.invariant.rows c.self.invariant.crowded id old there change keeps marks in
    let gone : c.remove.new.self ≡ without id inside.members = c.remove.ensures.gone in
    record {
      world = subst IsWorld (sym gone) (IsWorld-without id inside.members c.self.invariant.world);
      rows = subst (λ (ms : World). AllByRecursion (HasRowsOf (places_of ms)) (g.I.Index.leaves c.take_row.new.self)) (sym gone) it.rows;
      crowded = it.crowded;
    }

pub returns-clause-ok : goal.returns-clause-ok
returns-clause-ok g c =
    let w = g.I.Index.WIDTH in
    let inside = c.self.inside in
    let id = c.args.id in
    let old = c.in-Some.old in
    let key : c.key.result ≡ key_of old.at = c.key.ensures.sum in
    let there : position_of inside.members id ≡ Some old = rw (← c.self.view_is) at (sym c.in-Some.ensures) in
    let change = rw (c.change-gone.ensures.row, key) at c.in_ok-take_row.ensures.ok in
    let keeps = rw key at c.change-gone.ensures.keeps in
    let marks = rw (key, c.in_ok-reserve.ensures.names) at c.mark_left.ensures.names in
    let it =
    gone_after w inside.size (splits_of c.args.begun.now) c.change-gone.result.keeps_base (g.I.Index.leaves inside.index) (g.I.Index.leaves c.take_row.new.self) inside.members inside.crowded.names c.mark_left.new.crowded.names
    (g.met.I.Index.are_leaves inside.index) c.self.invariant.rows c.self.invariant.crowded id old there change keeps marks in
    rw (← c.self.view_is)
    (updates_some (splits_of c.args.begun.now) _ _ (Remove id) (Gone old) (sym (ap (λ o. option_map_or Gone o Absent) there)) refl
    (record { world = c.remove.ensures.gone; bases = it.bases; settled = it.settled; size = refl }))

pub returns-in_default-clause-err : goal.returns-in_default-clause-err
returns-in_default-clause-err g c = search rules

pub returns-in_default-clause-told : goal.returns-in_default-clause-told
returns-in_default-clause-told g c = search rules

pub reserve-requires : goal.reserve-requires
reserve-requires g c = search rules

pub invariant_of-self : goal.invariant_of-self
invariant_of-self g c = search rules

pub returns-in_err-reserve-clause-ok : goal.returns-in_err-reserve-clause-ok
returns-in_err-reserve-clause-ok g c = search rules

pub returns-in_err-reserve-clause-err : goal.returns-in_err-reserve-clause-err
returns-in_err-reserve-clause-err g c = search rules

pub returns-in_err-reserve-clause-told : goal.returns-in_err-reserve-clause-told
returns-in_err-reserve-clause-told g c = search rules

pub key-requires : goal.key-requires
key-requires g c = search rules

pub take_row-requires-clause-can : goal.take_row-requires-clause-can
take_row-requires-clause-can g c = search rules

pub invariant_of-self-in_err-take_row : goal.invariant_of-self-in_err-take_row
invariant_of-self-in_err-take_row g c = search rules

pub returns-in_err-take_row-clause-ok : goal.returns-in_err-take_row-clause-ok
returns-in_err-take_row-clause-ok g c = search rules

pub returns-in_err-take_row-clause-err : goal.returns-in_err-take_row-clause-err
returns-in_err-take_row-clause-err g c = search rules

pub returns-in_err-take_row-clause-told : goal.returns-in_err-take_row-clause-told
returns-in_err-take_row-clause-told g c = search rules

pub remove-requires : goal.remove-requires
remove-requires g c = search rules

pub mark_left-requires : goal.mark_left-requires
mark_left-requires g c = search rules

pub returns-clause-err : goal.returns-clause-err
returns-clause-err g c = search rules

pub returns-clause-told : goal.returns-clause-told
returns-clause-told g c = search rules
