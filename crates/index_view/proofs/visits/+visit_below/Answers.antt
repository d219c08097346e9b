use Rattle.std.proofs.Common.{◌≡◌, [], List, length, length-append, true, false, refl, sym, ap, subst, arith}
use Rattle.std.specs.Arc.{arc_value}
use Rattle.std.specs.List.{FoldsTo}
use Rattle.zorder.specs.declared.points.Placed.{Placed}
use Rattle.index_layer.specs.Leaves.{Leaf}
use Rattle.index_layer.specs.Subtree.{subtree}
use Rattle.table_share.proofs.FoldLemmas.{FoldsTo-join}
use Rattle.table_share.proofs.Subtrees.{passing-both, passing-leaf, subtree-failing}
use Rattle.range_query.specs.Cut.{is_met, leaves_met, objects_held}
use Rattle.range_query.proofs.BoxLeaves.{met-is, is_met-narrows, found_one, found_two, found_none}
use Rattle.range_query.proofs.Reaches.{area-box}
use Rattle.range_query.proofs.Wholes.{met-whole, held-whole, within-name}
use Rattle.index_view.proofs.visits.+visit_below.Goals as goal

pub meets-requires-clause-a_box : goal.meets-requires-clause-a_box
meets-requires-clause-a_box g t c = area-box c.args.name.now c.args.area.now c.requires.area

pub returns-then-not-meets-clause-visits : goal.returns-then-not-meets-clause-visits
returns-then-not-meets-clause-visits g t c under =
    let leaves : List Leaf = g.I.Index.leaves c.args.index.now in
    let region = c.args.region.now in
    let fails : is_met region c.args.name.now ≡ false = met-is region c.args.area.now c.args.name.now c.meets.result false c.meets.ensures.test c.requires.area.is c.if-not-meets.true in
    let none = subtree-failing (is_met region) (is_met-narrows region c.requires.is_box) c.args.name.now 0 leaves (g.met.I.Index.are_leaves c.args.index.now).tile fails in
    subst (λ (ms : List Placed). FoldsTo g.V.Visit.does c.args.visitor.now ms c.args.visitor.now) (found_none region c.requires.is_box [] (leaves_met region (subtree c.args.name.now leaves)) none) refl

pub returns-then-not-meets-clause-opened : goal.returns-then-not-meets-clause-opened
returns-then-not-meets-clause-opened g t c =
    let leaves : List Leaf = g.I.Index.leaves c.args.index.now in
    let region = c.args.region.now in
    let fails : is_met region c.args.name.now ≡ false = met-is region c.args.area.now c.args.name.now c.meets.result false c.meets.ensures.test c.requires.area.is c.if-not-meets.true in
    omega (arith, ap length (subtree-failing (is_met region) (is_met-narrows region c.requires.is_box) c.args.name.now 0 leaves (g.met.I.Index.are_leaves c.args.index.now).tile fails))

pub returns-then-inside-clause-visits : goal.returns-then-inside-clause-visits
returns-then-inside-clause-visits g t c under =
    let leaves : List Leaf = g.I.Index.leaves c.args.index.now in
    let name = c.args.name.now in
    let held = held-whole c.args.region.now c.requires.is_box name (within-name c.args.area.now c.args.region.now name c.requires.area (c.inside.ensures.points.0 c.if-inside.true))
    leaves (g.met.I.Index.are_leaves c.args.index.now).tile under in
    subst (λ (ms : List Placed). FoldsTo g.V.Visit.does c.args.visitor.now ms c.visit_whole.new.visitor) (sym held) c.visit_whole.ensures.visits

pub returns-then-inside-clause-opened : goal.returns-then-inside-clause-opened
returns-then-inside-clause-opened g t c =
    let name = c.args.name.now in
    let met = met-whole c.args.region.now c.requires.is_box name (within-name c.args.area.now c.args.region.now name c.requires.area (c.inside.ensures.points.0 c.if-inside.true))
    0 (g.I.Index.leaves c.args.index.now) (g.met.I.Index.are_leaves c.args.index.now).tile in
    omega (arith, c.visit_whole.ensures.opened, ap length met)

pub returns-in-Leaf-clause-visits : goal.returns-in-Leaf-clause-visits
returns-in-Leaf-clause-visits g t c under =
    let leaves : List Leaf = g.I.Index.leaves c.args.index.now in
    let region = c.args.region.now in
    let name = c.args.name.now in
    let b = arc_value c.in-Leaf.bucket.now in
    let one = passing-leaf (is_met region) leaves (g.met.I.Index.are_leaves c.args.index.now).tile name b c.in-Leaf.ensures (met-is region c.args.area.now name c.meets.result true c.meets.ensures.test c.requires.area.is c.if-not-meets.false) in
    subst (λ (ms : List Placed). FoldsTo g.V.Visit.does c.args.visitor.now ms c.visit_rows_in.new.visitor)
    (found_one region c.requires.is_box [] c.deref.result.now.rows (leaves_met region (subtree name leaves)) name b (ap (λ r. r.rows) c.deref.ensures) one)
    c.visit_rows_in.ensures.visits

pub returns-in-Leaf-clause-opened : goal.returns-in-Leaf-clause-opened
returns-in-Leaf-clause-opened g t c =
    let leaves : List Leaf = g.I.Index.leaves c.args.index.now in
    let region = c.args.region.now in
    let name = c.args.name.now in
    let one = passing-leaf (is_met region) leaves (g.met.I.Index.are_leaves c.args.index.now).tile name (arc_value c.in-Leaf.bucket.now) c.in-Leaf.ensures (met-is region c.args.area.now name c.meets.result true c.meets.ensures.test c.requires.area.is c.if-not-meets.false) in
    omega (arith, c.visit_rows_in.ensures.opened, ap length one)

pub returns-in-Halves-clause-visits : goal.returns-in-Halves-clause-visits
returns-in-Halves-clause-visits g t c under =
    let leaves : List Leaf = g.I.Index.leaves c.args.index.now in
    let region = c.args.region.now in
    let name = c.args.name.now in
    let zero : List Leaf = leaves_met region (subtree c.child.result leaves) in
    let one : List Leaf = leaves_met region (subtree c.child-in-Halves.result leaves) in
    let both = passing-both (is_met region) leaves (g.met.I.Index.are_leaves c.args.index.now).tile name c.child.result c.child-in-Halves.result c.child.ensures c.child-in-Halves.ensures c.in-Halves.ensures.0 c.in-Halves.ensures.1 in
    subst (λ (ms : List Placed). FoldsTo g.V.Visit.does c.args.visitor.now ms c.visit_below-in-Halves.new.visitor)
    (found_two region c.requires.is_box [] (objects_held region zero) (leaves_met region (subtree name leaves)) zero one both refl)
    (FoldsTo-join g.V.Visit.does (objects_held region zero) (objects_held region one) c.args.visitor.now c.visit_below.new.visitor c.visit_below-in-Halves.new.visitor (c.visit_below.ensures.visits under) (c.visit_below-in-Halves.ensures.visits under))

pub returns-in-Halves-clause-opened : goal.returns-in-Halves-clause-opened
returns-in-Halves-clause-opened g t c =
    let leaves : List Leaf = g.I.Index.leaves c.args.index.now in
    let region = c.args.region.now in
    let both = passing-both (is_met region) leaves (g.met.I.Index.are_leaves c.args.index.now).tile c.args.name.now c.child.result c.child-in-Halves.result c.child.ensures c.child-in-Halves.ensures c.in-Halves.ensures.0 c.in-Halves.ensures.1 in
    omega (
      arith,
      c.visit_below.ensures.opened,
      c.visit_below-in-Halves.ensures.opened,
      ap length both,
      length-append (leaves_met region (subtree c.child.result leaves)) (leaves_met region (subtree c.child-in-Halves.result leaves)),
    )
