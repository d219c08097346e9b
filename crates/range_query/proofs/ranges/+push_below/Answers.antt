use Rattle.std.proofs.Common.{◌≡◌, ◌+◌, ◌++◌, ◌∷◌, ◌∙◌, [], Bool, List, OnOk, length, length-append, true, false, refl, sym, ap, subst, arith, ◌<◌, rules}
use Rattle.std.specs.Arc.{arc_value}
use Rattle.zorder.specs.declared.points.Placed.{Placed}
use Rattle.index_layer.specs.Leaves.{Leaf}
use Rattle.table_share.specs.KeysUnder.{AreKeysUnder}
use Rattle.table_share.specs.Subtree.{subtree, leaves_of}
use Rattle.table_share.proofs.Subtrees.{whenever, inner-room, passing-both, passing-leaf, subtree-failing}
use Rattle.range_query.specs.Cut.{is_met, leaves_met}
use Rattle.range_query.proofs.BoxLeaves.{met-is, is_met-narrows, found_one, found_two, found_none, keys_of_leaf}
use Rattle.range_query.proofs.ranges.+push_below.Goals as goal

pub returns-then-not-meets-clause-objects : goal.returns-then-not-meets-clause-objects
returns-then-not-meets-clause-objects g t c under =
    let leaves : List Leaf = g.I.Index.leaves c.args.index.now in
    let fails : is_met c.args.region.now c.args.name.now ≡ false = met-is c.args.region.now c.region.result c.args.name.now c.meets.result false c.meets.ensures.test c.region.ensures.value c.if-not-meets.true in
    let none = subtree-failing (is_met c.args.region.now) (is_met-narrows c.args.region.now c.requires.is_box) c.args.name.now 0 leaves (g.met.I.Index.are_leaves c.args.index.now).tile fails in
    found_none c.args.region.now c.requires.is_box c.args.found.now.items (leaves_met c.args.region.now (subtree c.args.name.now leaves)) none

pub returns-then-not-meets-clause-exact : goal.returns-then-not-meets-clause-exact
returns-then-not-meets-clause-exact g t c =
    let leaves : List Leaf = g.I.Index.leaves c.args.index.now in
    let fails : is_met c.args.region.now c.args.name.now ≡ false = met-is c.args.region.now c.region.result c.args.name.now c.meets.result false c.meets.ensures.test c.region.ensures.value c.if-not-meets.true in
    let none = subtree-failing (is_met c.args.region.now) (is_met-narrows c.args.region.now c.requires.is_box) c.args.name.now 0 leaves (g.met.I.Index.are_leaves c.args.index.now).tile fails in
    omega (arith, ap length none)

pub child-requires : goal.child-requires
child-requires g t c =
    inner-room c.args.name.now (g.I.Index.leaves c.args.index.now) (g.met.I.Index.are_leaves c.args.index.now).tile c.in-Halves.ensures.0

pub returns-in_err-push_below-in-Halves-clause-opened : goal.returns-in_err-push_below-in-Halves-clause-opened
returns-in_err-push_below-in-Halves-clause-opened g t c =
    let leaves : List Leaf = g.I.Index.leaves c.args.index.now in
    let name = c.args.name.now in
    let passes : List Bool → Bool = is_met c.args.region.now in
    let both = passing-both passes leaves (g.met.I.Index.are_leaves c.args.index.now).tile name c.child.result (name ++ true ∷ []) c.child.ensures refl c.in-Halves.ensures.0 c.in-Halves.ensures.1 in
    omega (arith, c.push_below.ensures.opened, ap length both, length-append (leaves_of passes (subtree c.child.result leaves)) (leaves_of passes (subtree (name ++ true ∷ []) leaves)))

pub returns-in-Leaf-clause-objects : goal.returns-in-Leaf-clause-objects
returns-in-Leaf-clause-objects g t c under =
    let leaves : List Leaf = g.I.Index.leaves c.args.index.now in
    let name = c.args.name.now in
    let found = c.args.found.now.items in
    let passes : List Bool → Bool = is_met c.args.region.now in
    let one = passing-leaf passes leaves (g.met.I.Index.are_leaves c.args.index.now).tile name (arc_value c.in-Leaf.bucket.now) c.in-Leaf.ensures (met-is c.args.region.now c.region.result c.args.name.now c.meets.result true c.meets.ensures.test c.region.ensures.value c.if-not-meets.false) in
    subst (λ (ms : List Placed). OnOk c.push_leaf.result (c.push_leaf.new.found.items ≡ ms))
    (found_one c.args.region.now c.requires.is_box found c.deref.result.now.rows (leaves_of passes (subtree name leaves)) name (arc_value c.in-Leaf.bucket.now) (ap (λ b. b.rows) c.deref.ensures) one)
    (c.push_leaf.ensures.objects (subst (λ b. AreKeysUnder name b.rows) (sym c.deref.ensures) (keys_of_leaf name (arc_value c.in-Leaf.bucket.now) leaves c.in-Leaf.ensures under)))

pub returns-in-Leaf-clause-opened : goal.returns-in-Leaf-clause-opened
returns-in-Leaf-clause-opened g t c =
    let leaves : List Leaf = g.I.Index.leaves c.args.index.now in
    let passes : List Bool → Bool = is_met c.args.region.now in
    let one = passing-leaf passes leaves (g.met.I.Index.are_leaves c.args.index.now).tile c.args.name.now (arc_value c.in-Leaf.bucket.now) c.in-Leaf.ensures (met-is c.args.region.now c.region.result c.args.name.now c.meets.result true c.meets.ensures.test c.region.ensures.value c.if-not-meets.false) in
    omega (arith, c.push_leaf.ensures.opened, ap length one)

pub returns-in-Leaf-clause-exact : goal.returns-in-Leaf-clause-exact
returns-in-Leaf-clause-exact g t c =
    let leaves : List Leaf = g.I.Index.leaves c.args.index.now in
    let passes : List Bool → Bool = is_met c.args.region.now in
    let one = passing-leaf passes leaves (g.met.I.Index.are_leaves c.args.index.now).tile c.args.name.now (arc_value c.in-Leaf.bucket.now) c.in-Leaf.ensures (met-is c.args.region.now c.region.result c.args.name.now c.meets.result true c.meets.ensures.test c.region.ensures.value c.if-not-meets.false) in
    whenever c.push_leaf.result (omega (arith, c.push_leaf.ensures.opened, ap length one))

pub returns-in_ok-push_below-in-Halves-clause-objects : goal.returns-in_ok-push_below-in-Halves-clause-objects
returns-in_ok-push_below-in-Halves-clause-objects g t c under =
    let leaves : List Leaf = g.I.Index.leaves c.args.index.now in
    let name = c.args.name.now in
    let found = c.args.found.now.items in
    let passes : List Bool → Bool = is_met c.args.region.now in
    let zero : List Leaf = leaves_of passes (subtree c.child.result leaves) in
    let one : List Leaf = leaves_of passes (subtree c.child-in-Halves.result leaves) in
    let both = passing-both passes leaves (g.met.I.Index.are_leaves c.args.index.now).tile name c.child.result c.child-in-Halves.result c.child.ensures c.child-in-Halves.ensures c.in-Halves.ensures.0 c.in-Halves.ensures.1 in
    subst (λ (ms : List Placed). OnOk c.push_below-in-Halves.result (c.push_below-in-Halves.new.found.items ≡ ms))
    (found_two c.args.region.now c.requires.is_box found c.push_below.new.found.items (leaves_of passes (subtree name leaves)) zero one both (c.in_ok-push_below-in-Halves.ensures.objects under))
    (c.push_below-in-Halves.ensures.objects under)

pub returns-in_ok-push_below-in-Halves-clause-opened : goal.returns-in_ok-push_below-in-Halves-clause-opened
returns-in_ok-push_below-in-Halves-clause-opened g t c =
    let leaves : List Leaf = g.I.Index.leaves c.args.index.now in
    let name = c.args.name.now in
    let passes : List Bool → Bool = is_met c.args.region.now in
    let both = passing-both passes leaves (g.met.I.Index.are_leaves c.args.index.now).tile name c.child.result c.child-in-Halves.result c.child.ensures c.child-in-Halves.ensures c.in-Halves.ensures.0 c.in-Halves.ensures.1 in
    omega (
      arith,
      c.in_ok-push_below-in-Halves.ensures.exact,
      c.push_below-in-Halves.ensures.opened,
      ap length both,
      length-append (leaves_of passes (subtree c.child.result leaves)) (leaves_of passes (subtree c.child-in-Halves.result leaves)),
    )

pub returns-in_ok-push_below-in-Halves-clause-exact : goal.returns-in_ok-push_below-in-Halves-clause-exact
returns-in_ok-push_below-in-Halves-clause-exact g t c =
    let leaves : List Leaf = g.I.Index.leaves c.args.index.now in
    let name = c.args.name.now in
    let passes : List Bool → Bool = is_met c.args.region.now in
    let both = passing-both passes leaves (g.met.I.Index.are_leaves c.args.index.now).tile name c.child.result c.child-in-Halves.result c.child.ensures c.child-in-Halves.ensures c.in-Halves.ensures.0 c.in-Halves.ensures.1 in
    let sum : c.push_below.new.steps + length (leaves_of passes (subtree c.child-in-Halves.result leaves)) ≡ c.args.steps.now + length (leaves_of passes (subtree name leaves)) =
    omega (arith, c.in_ok-push_below-in-Halves.ensures.exact, ap length both, length-append (leaves_of passes (subtree c.child.result leaves)) (leaves_of passes (subtree c.child-in-Halves.result leaves))) in
    subst (λ n. OnOk c.push_below-in-Halves.result (c.push_below-in-Halves.new.steps ≡ n)) sum c.push_below-in-Halves.ensures.exact

pub child-requires-in-Halves : goal.child-requires-in-Halves
child-requires-in-Halves g t c =
    inner-room c.args.name.now (g.I.Index.leaves c.args.index.now) (g.met.I.Index.are_leaves c.args.index.now).tile c.in-Halves.ensures.0

pub push_below-requires : goal.push_below-requires
push_below-requires g t c κs within =
    let name = c.args.name.now in
    let room : length name < 64 = inner-room c.args.name.now (g.I.Index.leaves c.args.index.now) (g.met.I.Index.are_leaves c.args.index.now).tile c.in-Halves.ensures.0 in
    let longer : length c.child.result ≡ length name + 1 = ap length c.child.ensures ∙ length-append name (false ∷ []) in
    let there = subst (g.I.Index.is_at c.args.index.now c.in-Halves.zero.now) (sym c.child.ensures) c.in-Halves.ensures.2 in
    (omega (arith, room, longer), (search rules, (search rules, (search rules, (c.requires.is_box, there)))))

pub push_below-requires-in-Halves : goal.push_below-requires-in-Halves
push_below-requires-in-Halves g t c κs within =
    let name = c.args.name.now in
    let room : length name < 64 = inner-room c.args.name.now (g.I.Index.leaves c.args.index.now) (g.met.I.Index.are_leaves c.args.index.now).tile c.in-Halves.ensures.0 in
    let longer : length c.child-in-Halves.result ≡ length name + 1 = ap length c.child-in-Halves.ensures ∙ length-append name (true ∷ []) in
    let there = subst (g.I.Index.is_at c.args.index.now c.in-Halves.one.now) (sym c.child-in-Halves.ensures) c.in-Halves.ensures.3 in
    (omega (arith, room, longer), (search rules, (search rules, (search rules, (c.requires.is_box, there)))))
