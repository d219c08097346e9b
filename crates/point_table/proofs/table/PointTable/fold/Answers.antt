use Rattle.std.proofs.Common.{◌≡◌, ◌∙◌, Some, sym, ap, subst, rules}
use Rattle.std.specs.Arc.{arc_value}
use Rattle.std.specs.List.{AllByRecursion}
use Rattle.bucket_versions.specs.Rows.{Rows, as_base}
use Rattle.index_layer.specs.Leaves.{Leaf, AreUnder, leaf_named, replaced}
use Rattle.index_layer.specs.Stands.{HasRowsOf}
use Rattle.index_layer.proofs.Standing.{among-all}
use Rattle.point_table.specs.Crowds.{crowded_of}
use Rattle.point_table.proofs.Folding.{named_is, only_named, crowded_of-folded, rows_folded}
use Rattle.point_table.proofs.table.PointTable.fold.Goals as goal
use Rattle.plain_list.specs.World.{places_of}

pub replace-requires-clause-under : goal.replace-requires-clause-under
replace-requires-clause-under g c =
    let leaves = g.I.Index.leaves c.self.inside.index in
    let name = c.args.name.now in
    let leaf : Leaf = record { name = name; bucket = arc_value c.in-Some.bucket.now } in
    let named : leaf_named name leaves ≡ Some leaf = rw (← c.self.view_is) at c.in-Some.ensures in
    let under = among-all (λ (l : Leaf). AreUnder l.name l.bucket.rows) leaves leaf (g.met.I.Index.are_leaves c.self.inside.index).under (named_is name leaves leaf named).0 in
    let same : arc_value c.in_ok-shared.shared ≡ as_base leaf.bucket.rows = c.in_ok-shared.ensures ∙ c.in_ok-folded.ensures in
    let P : Rows → Type 0 = λ b. AreUnder name b.rows in
    subst P (sym same) under

pub invariant_of-self-2 : goal.invariant_of-self-2
invariant_of-self-2 g c =
    let w = g.I.Index.WIDTH in
    let inside = c.self.inside in
    let leaves = g.I.Index.leaves inside.index in
    let new = g.I.Index.leaves c.replace.new.self in
    let name = c.args.name.now in
    let leaf : Leaf = record { name = name; bucket = arc_value c.in-Some.bucket.now } in
    let named : leaf_named name leaves ≡ Some leaf = rw (← c.self.view_is) at c.in-Some.ensures in
    let same : arc_value c.in_ok-shared.shared ≡ as_base leaf.bucket.rows = c.in_ok-shared.ensures ∙ c.in_ok-folded.ensures in
    let after : new ≡ replaced name (as_base leaf.bucket.rows) leaves = c.in_ok-replace.ensures.ok ∙ ap (λ (b : Rows). replaced name b leaves) same in
    let only = only_named 0 name leaves leaf (g.met.I.Index.are_leaves inside.index).tile named in
    let world = inside.members in
    record {
      world = c.self.invariant.world;
      rows = subst (AllByRecursion (HasRowsOf (places_of world))) (sym after) (rows_folded name leaf (places_of world) leaves only c.self.invariant.rows);
      crowded = c.self.invariant.crowded ∙ sym (crowded_of-folded name leaf w inside.size leaves only) ∙ ap (crowded_of w inside.size) (sym after);
    }

pub returns-clause-folds : goal.returns-clause-folds
returns-clause-folds g c =
    let leaves = g.I.Index.leaves c.self.inside.index in
    let name = c.args.name.now in
    let leaf : Leaf = record { name = name; bucket = arc_value c.in-Some.bucket.now } in
    let named : leaf_named name leaves ≡ Some leaf = rw (← c.self.view_is) at c.in-Some.ensures in
    let folded : arc_value c.in_ok-folded.folded ≡ as_base leaf.bucket.rows = c.in_ok-folded.ensures in
    let after = c.in_ok-replace.ensures.ok ∙ ap (λ (b : Rows). replaced name b leaves) (c.in_ok-shared.ensures ∙ folded) in
    rw (← c.self.view_is) (record { leaf = leaf; named = named; bucket_is = folded; leaves = after })

pub returns-clause-rest : goal.returns-clause-rest
returns-clause-rest g c = search rules

pub returns-clause-told : goal.returns-clause-told
returns-clause-told g c = c.in_ok-replace.ensures.told
