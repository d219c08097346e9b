use Rattle.std.proofs.Common.{◌∙◌, [], List, length, length-append, refl, sym, ap, subst, arith}
use Rattle.std.specs.Arc.{arc_value}
use Rattle.std.specs.List.{FoldsTo}
use Rattle.zorder.specs.declared.points.Placed.{Placed}
use Rattle.index_layer.specs.Leaves.{Leaf, all_rows}
use Rattle.index_layer.specs.Subtree.{subtree}
use Rattle.table_share.specs.Objects.{objects_of}
use Rattle.table_share.proofs.FoldLemmas.{FoldsTo-join}
use Rattle.table_share.proofs.Subtrees.{inner-room}
use Rattle.range_query.proofs.Wholes.{below-leaf, objects-leaf, below-halves, objects-halves}
use Rattle.index_view.proofs.visits.+visit_whole.Goals as goal

pub child-requires : goal.child-requires
child-requires g t c =
    inner-room c.args.name.now (g.I.Index.leaves c.args.index.now) (g.met.I.Index.are_leaves c.args.index.now).tile c.in-Halves.ensures.0

pub returns-in-Leaf-clause-visits : goal.returns-in-Leaf-clause-visits
returns-in-Leaf-clause-visits g t c =
    let leaves : List Leaf = g.I.Index.leaves c.args.index.now in
    let one = objects-leaf c.args.name.now leaves (g.met.I.Index.are_leaves c.args.index.now).tile (arc_value c.in-Leaf.bucket.now) c.in-Leaf.ensures in
    subst (λ (ms : List Placed). FoldsTo g.V.Visit.does c.args.visitor.now ms c.visit_rows.new.visitor) (ap (λ b. objects_of b.rows) c.deref.ensures ∙ sym one) c.visit_rows.ensures.visits

pub returns-in-Leaf-clause-opened : goal.returns-in-Leaf-clause-opened
returns-in-Leaf-clause-opened g t c =
    let leaves : List Leaf = g.I.Index.leaves c.args.index.now in
    let one = below-leaf c.args.name.now leaves (g.met.I.Index.are_leaves c.args.index.now).tile (arc_value c.in-Leaf.bucket.now) c.in-Leaf.ensures in
    omega (arith, c.visit_rows.ensures.opened, ap length one)

pub returns-in-Halves-clause-visits : goal.returns-in-Halves-clause-visits
returns-in-Halves-clause-visits g t c =
    let leaves : List Leaf = g.I.Index.leaves c.args.index.now in
    let first : List Placed = objects_of (all_rows (subtree c.child.result leaves)) in
    let second : List Placed = objects_of (all_rows (subtree c.child-in-Halves.result leaves)) in
    let both = objects-halves c.args.name.now leaves (g.met.I.Index.are_leaves c.args.index.now).tile c.child.result c.child-in-Halves.result c.child.ensures c.child-in-Halves.ensures c.in-Halves.ensures.0 c.in-Halves.ensures.1 [] first refl in
    subst (λ (ms : List Placed). FoldsTo g.V.Visit.does c.args.visitor.now ms c.visit_whole-in-Halves.new.visitor) both
    (FoldsTo-join g.V.Visit.does first second c.args.visitor.now c.visit_whole.new.visitor c.visit_whole-in-Halves.new.visitor c.visit_whole.ensures.visits c.visit_whole-in-Halves.ensures.visits)

pub returns-in-Halves-clause-opened : goal.returns-in-Halves-clause-opened
returns-in-Halves-clause-opened g t c =
    let leaves : List Leaf = g.I.Index.leaves c.args.index.now in
    let both = below-halves c.args.name.now leaves (g.met.I.Index.are_leaves c.args.index.now).tile c.child.result c.child-in-Halves.result c.child.ensures c.child-in-Halves.ensures c.in-Halves.ensures.0 c.in-Halves.ensures.1 in
    omega (
      arith,
      c.visit_whole.ensures.opened,
      c.visit_whole-in-Halves.ensures.opened,
      ap length both,
      length-append (subtree c.child.result leaves) (subtree c.child-in-Halves.result leaves),
    )
