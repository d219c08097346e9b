use Rattle.std.proofs.Common.{List, Ok, false, true, refl, subst, sym}
use Rattle.zorder.specs.declared.points.Memory.{Memory}
use Rattle.zorder.specs.declared.points.Placed.{Placed}
use Rattle.index_layer.specs.Leaves.{Leaf}
use Rattle.browse_query.specs.Coming.{IsNext}
use Rattle.browse_query.specs.Front.{coming, HasFirst}
use Rattle.browse_query.specs.declared.front.Front.{Front}
use Rattle.browse_query.proofs.Fronts.{end-front, end-next, goes-farther, next-err, same-objects}
use Rattle.browse_query.proofs.front.next_of.Goals as goal

pub down-preserved : goal.down-preserved
down-preserved g c =
    let under = (g.met.I.Index.are_leaves c.args.index.now).under in
    let has : HasFirst c.down.front false = subst (HasFirst c.down.front) c.down-test.true c.has_first.ensures in
    goes-farther (g.I.Index.leaves c.args.index.now) (g.I.Index.is_at c.args.index.now) under c.args.steps.now c.down.steps c.open_nearest.new.steps c.args.front.now c.down.front c.open_nearest.new.front c.down.invariant has c.open_nearest.ensures.goes_on

pub returns-in_err-open_nearest-clause-next : goal.returns-in_err-open_nearest-clause-next
returns-in_err-open_nearest-clause-next g c =
    let leaves : List Leaf = g.I.Index.leaves c.args.index.now in
    let is_at = g.I.Index.is_at c.args.index.now in
    let under = (g.met.I.Index.are_leaves c.args.index.now).under in
    let has : HasFirst c.down.front false = subst (HasFirst c.down.front) c.down-test.true c.has_first.ensures in
    let gone =
    goes-farther leaves is_at under c.args.steps.now c.down.steps c.open_nearest.new.steps c.args.front.now c.down.front c.open_nearest.new.front c.down.invariant has c.open_nearest.ensures.goes_on in
    next-err c.from_residual.result (coming leaves c.args.front.now).objects (coming leaves c.open_nearest.new.front).objects c.from_residual.ensures.0
    (sym (same-objects leaves is_at c.args.steps.now c.open_nearest.new.steps c.args.front.now c.open_nearest.new.front gone))

pub returns-in_err-open_nearest-clause-opened : goal.returns-in_err-open_nearest-clause-opened
returns-in_err-open_nearest-clause-opened g c =
    let under = (g.met.I.Index.are_leaves c.args.index.now).under in
    let has : HasFirst c.down.front false = subst (HasFirst c.down.front) c.down-test.true c.has_first.ensures in
    (goes-farther (g.I.Index.leaves c.args.index.now) (g.I.Index.is_at c.args.index.now) under c.args.steps.now c.down.steps c.open_nearest.new.steps c.args.front.now c.down.front c.open_nearest.new.front c.down.invariant has
    c.open_nearest.ensures.goes_on).opened

pub returns-in_err-open_nearest-clause-near : goal.returns-in_err-open_nearest-clause-near
returns-in_err-open_nearest-clause-near g c =
    let under = (g.met.I.Index.are_leaves c.args.index.now).under in
    let has : HasFirst c.down.front false = subst (HasFirst c.down.front) c.down-test.true c.has_first.ensures in
    (goes-farther (g.I.Index.leaves c.args.index.now) (g.I.Index.is_at c.args.index.now) under c.args.steps.now c.down.steps c.open_nearest.new.steps c.args.front.now c.down.front c.open_nearest.new.front c.down.invariant has
    c.open_nearest.ensures.goes_on).near

pub returns-clause-front : goal.returns-clause-front
returns-clause-front g c =
    let under = (g.met.I.Index.are_leaves c.args.index.now).under in
    let has : HasFirst c.down.front true = subst (HasFirst c.down.front) c.down-test.false c.has_first.ensures in
    end-front (g.I.Index.leaves c.args.index.now) under (g.I.Index.is_at c.args.index.now) c.down.front c.down.invariant.is
    (record { from = c.down.front.from; nearest = c.down.front.nearest; waiting = c.down.front.waiting; found = c.take_first.new.found }) refl refl refl has c.take_first.result c.take_first.ensures

pub returns-clause-next : goal.returns-clause-next
returns-clause-next g c =
    let leaves : List Leaf = g.I.Index.leaves c.args.index.now in
    let is_at = g.I.Index.is_at c.args.index.now in
    let under = (g.met.I.Index.are_leaves c.args.index.now).under in
    let has : HasFirst c.down.front true = subst (HasFirst c.down.front) c.down-test.false c.has_first.ensures in
    let new : Front g.row.I-Place.Denot = record { from = c.down.front.from; nearest = c.down.front.nearest; waiting = c.down.front.waiting; found = c.take_first.new.found } in
    subst (λ (ms : List Placed). IsNext {E = Memory} (Ok c.take_first.result) ms (coming leaves new).objects) (sym (same-objects leaves is_at c.args.steps.now c.down.steps c.args.front.now c.down.front c.down.invariant))
    (end-next leaves under is_at c.down.front c.down.invariant.is new refl refl refl Memory has c.take_first.result c.take_first.ensures)
