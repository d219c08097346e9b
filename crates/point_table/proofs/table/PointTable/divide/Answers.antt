use Rattle.std.proofs.Common.{◌≡◌, ◌∙◌, ◌+◌, ◌≤◌, List, Some, length, map, sym, ap, subst, rules}
use Rattle.std.specs.Arc.{arc_value}
use Rattle.std.specs.List.{AllByRecursion}
use Rattle.std.proofs.lemmas.List.{length-map}
use mathlib.Core.Bool.{true≢false}
use Rattle.zorder.specs.Tile.{tiles_from}
use Rattle.bucket_versions.specs.Rows.{Rows}
use Rattle.index_layer.specs.Leaves.{Leaf, AreAllUnder, names_of, leaf_named, split}
use Rattle.index_layer.specs.Stands.{HasRowsOf}
use Rattle.index_layer.proofs.Standing.{among-all}
use Rattle.split_prepare.specs.Cut.{cut}
use Rattle.point_table.specs.Crowded.{Crowd, remarked_each}
use Rattle.point_table.specs.Crowds.{crowded_of}
use Rattle.point_table.specs.Divisions.{CanDivide, marks_of}
use Rattle.point_table.proofs.Folding.{named_is, named_has}
use Rattle.point_table.proofs.Dividing.{length-cut, under_children, rows_of-divided, crowded_of-divided}
use Rattle.point_table.proofs.table.PointTable.divide.Goals as goal
use Rattle.plain_list.specs.World.{places_of}

pub unreachable-requires : goal.unreachable-requires
unreachable-requires g c =
    let it = c.requires.leaf in
    true≢false (sym (named_has c.args.name.now c.args.self.now.leaves it.leaf it.named) ∙ c.in_default.ensures)

pub divide-requires-clause-leaf : goal.divide-requires-clause-leaf
divide-requires-clause-leaf g c =
    let it : CanDivide g.I.Index.WIDTH c.args.name.now (map arc_value c.args.parts.now) (g.I.Index.leaves c.self.inside.index) = rw (← c.self.view_is) at c.requires.leaf in
    named_has c.args.name.now (g.I.Index.leaves c.self.inside.index) it.leaf it.named

pub divide-requires-clause-children : goal.divide-requires-clause-children
divide-requires-clause-children g c =
    let w = g.I.Index.WIDTH in
    let name = c.args.name.now in
    let rows = (arc_value c.in-Some.bucket.now).rows in
    let short : length name + w ≤ 64 = c.requires.leaf.short in
    let are_cut = ap (map arc_value) c.deref-3.ensures.value ∙ c.in_ok-children.ensures ∙ (λ i. cut (c.WIDTH.ensures i) name (c.deref.ensures i).rows) in
    let P : List Rows → Type 0 = AreAllUnder w name in
    (sym (length-map c.deref-3.result.now arc_value) ∙ ap length are_cut ∙ length-cut w name rows, subst P (sym are_cut) (under_children w name rows short))

pub invariant_of-self-2 : goal.invariant_of-self-2
invariant_of-self-2 g c =
    let w = g.I.Index.WIDTH in
    let inside = c.self.inside in
    let leaves = g.I.Index.leaves inside.index in
    let new = g.I.Index.leaves c.divide.new.self in
    let world = inside.members in
    let size = inside.size in
    let name = c.args.name.now in
    let leaf : Leaf = record { name = name; bucket = arc_value c.in-Some.bucket.now } in
    let named : leaf_named name leaves ≡ Some leaf = rw (← c.self.view_is) at c.in-Some.ensures in
    let rows = leaf.bucket.rows in
    let short : length name + w ≤ 64 = c.requires.leaf.short in
    let are_cut = c.in_ok-children.ensures ∙ (λ i. cut (c.WIDTH.ensures i) name (c.deref.ensures i).rows) in
    let after : new ≡ split w name (cut w name rows) leaves = c.in_ok-divide.ensures.ok ∙ ap (λ (b : List Rows). split w name b leaves) (ap (map arc_value) c.deref-3.ensures.value ∙ are_cut) in
    let marks = c.in_ok-marks.ensures ∙ (λ i. marks_of (c.WIDTH-2.ensures i) size name ((ap (map arc_value) c.deref-2.ensures.value ∙ are_cut) i)) in
    let at = named_is name leaves leaf named in
    let had = among-all (HasRowsOf (places_of world)) leaves leaf c.self.invariant.rows at.0 in
    let tiled = ap (λ (ls : List Leaf). tiles_from 0 (names_of ls)) (sym after) ∙ (g.met.I.Index.are_leaves c.divide.new.self).tile in
    record {
      world = c.self.invariant.world;
      rows = subst (AllByRecursion (HasRowsOf (places_of world))) (sym after) (rows_of-divided w (places_of world) name leaf leaves at.1 short had c.self.invariant.rows);
      crowded =
          ap (λ (v : Crowd). v.names) c.set_each.ensures
          ∙ (λ i. remarked_each (marks i) ((c.in_ok-reserve.ensures.names ∙ c.self.invariant.crowded) i))
          ∙ crowded_of-divided w size name rows leaves short (g.met.I.Index.are_leaves inside.index).tile tiled (named_has name leaves leaf named)
          ∙ ap (crowded_of w size) (sym after);
    }

pub returns-clause-divides : goal.returns-clause-divides
returns-clause-divides g c =
    let w = g.I.Index.WIDTH in
    let leaves = g.I.Index.leaves c.self.inside.index in
    let name = c.args.name.now in
    let leaf : Leaf = record { name = name; bucket = arc_value c.in-Some.bucket.now } in
    let named : leaf_named name leaves ≡ Some leaf = rw (← c.self.view_is) at c.in-Some.ensures in
    let are_cut = c.in_ok-children.ensures ∙ (λ i. cut (c.WIDTH.ensures i) name (c.deref.ensures i).rows) in
    let after = c.in_ok-divide.ensures.ok ∙ ap (λ (b : List Rows). split w name b leaves) (ap (map arc_value) c.deref-3.ensures.value ∙ are_cut) in
    rw (← c.self.view_is) (record { leaf = leaf; named = named; short = c.requires.leaf.short; leaves = after })

pub returns-clause-rest : goal.returns-clause-rest
returns-clause-rest g c = search rules

pub returns-clause-told : goal.returns-clause-told
returns-clause-told g c = c.in_ok-divide.ensures.told
