use Rattle.std.proofs.Common.{◌≡◌, ◌+◌, ◌++◌, ◌∷◌, ◌∙◌, [], List, OnOk, length, length-append, true, false, refl, sym, ap, subst, arith, ◌<◌, rules}
use Rattle.std.specs.Arc.{arc_value}
use Rattle.zorder.specs.declared.points.Placed.{Placed}
use Rattle.index_layer.specs.Leaves.{Leaf}
use Rattle.index_layer.specs.Subtree.{subtree}
use Rattle.table_share.specs.Objects.{objects_of}
use Rattle.table_share.proofs.Subtrees.{whenever, inner-room}
use Rattle.range_query.proofs.Wholes.{below-leaf, objects-leaf, below-halves, objects-halves}
use Rattle.range_query.proofs.ranges.+push_whole.Goals as goal

pub child-requires : goal.child-requires
child-requires g t c =
    inner-room c.args.name.now (g.I.Index.leaves c.args.index.now) (g.met.I.Index.are_leaves c.args.index.now).tile c.in-Halves.ensures.0

pub returns-in_err-push_whole-in-Halves-clause-opened : goal.returns-in_err-push_whole-in-Halves-clause-opened
returns-in_err-push_whole-in-Halves-clause-opened g t c =
    let leaves : List Leaf = g.I.Index.leaves c.args.index.now in
    let name = c.args.name.now in
    let both = below-halves name leaves (g.met.I.Index.are_leaves c.args.index.now).tile c.child.result (name ++ true ∷ []) c.child.ensures refl c.in-Halves.ensures.0 c.in-Halves.ensures.1 in
    omega (arith, c.push_whole.ensures.opened, ap length both, length-append (subtree c.child.result leaves) (subtree (name ++ true ∷ []) leaves))

pub returns-in-Leaf-clause-objects : goal.returns-in-Leaf-clause-objects
returns-in-Leaf-clause-objects g t c =
    let leaves : List Leaf = g.I.Index.leaves c.args.index.now in
    let one = objects-leaf c.args.name.now leaves (g.met.I.Index.are_leaves c.args.index.now).tile (arc_value c.in-Leaf.bucket.now) c.in-Leaf.ensures in
    subst (λ (ms : List Placed). OnOk c.push_all.result (c.push_all.new.found.items ≡ c.args.found.now.items ++ ms))
    (ap (λ b. objects_of b.rows) c.deref.ensures ∙ sym one) c.push_all.ensures.objects

pub returns-in-Leaf-clause-opened : goal.returns-in-Leaf-clause-opened
returns-in-Leaf-clause-opened g t c =
    let leaves : List Leaf = g.I.Index.leaves c.args.index.now in
    let one = below-leaf c.args.name.now leaves (g.met.I.Index.are_leaves c.args.index.now).tile (arc_value c.in-Leaf.bucket.now) c.in-Leaf.ensures in
    omega (arith, c.push_all.ensures.opened, ap length one)

pub returns-in-Leaf-clause-exact : goal.returns-in-Leaf-clause-exact
returns-in-Leaf-clause-exact g t c =
    let leaves : List Leaf = g.I.Index.leaves c.args.index.now in
    let one = below-leaf c.args.name.now leaves (g.met.I.Index.are_leaves c.args.index.now).tile (arc_value c.in-Leaf.bucket.now) c.in-Leaf.ensures in
    whenever c.push_all.result (omega (arith, c.push_all.ensures.opened, ap length one))

pub returns-in_ok-push_whole-in-Halves-clause-objects : goal.returns-in_ok-push_whole-in-Halves-clause-objects
returns-in_ok-push_whole-in-Halves-clause-objects g t c =
    let leaves : List Leaf = g.I.Index.leaves c.args.index.now in
    let name = c.args.name.now in
    let both = objects-halves name leaves (g.met.I.Index.are_leaves c.args.index.now).tile c.child.result c.child-in-Halves.result c.child.ensures c.child-in-Halves.ensures c.in-Halves.ensures.0 c.in-Halves.ensures.1
    c.args.found.now.items c.push_whole.new.found.items c.in_ok-push_whole-in-Halves.ensures.objects in
    subst (λ (ms : List Placed). OnOk c.push_whole-in-Halves.result (c.push_whole-in-Halves.new.found.items ≡ ms)) both c.push_whole-in-Halves.ensures.objects

pub returns-in_ok-push_whole-in-Halves-clause-opened : goal.returns-in_ok-push_whole-in-Halves-clause-opened
returns-in_ok-push_whole-in-Halves-clause-opened g t c =
    let leaves : List Leaf = g.I.Index.leaves c.args.index.now in
    let name = c.args.name.now in
    let both = below-halves name leaves (g.met.I.Index.are_leaves c.args.index.now).tile c.child.result c.child-in-Halves.result c.child.ensures c.child-in-Halves.ensures c.in-Halves.ensures.0 c.in-Halves.ensures.1 in
    omega (
      arith,
      c.in_ok-push_whole-in-Halves.ensures.exact,
      c.push_whole-in-Halves.ensures.opened,
      ap length both,
      length-append (subtree c.child.result leaves) (subtree c.child-in-Halves.result leaves),
    )

pub returns-in_ok-push_whole-in-Halves-clause-exact : goal.returns-in_ok-push_whole-in-Halves-clause-exact
returns-in_ok-push_whole-in-Halves-clause-exact g t c =
    let leaves : List Leaf = g.I.Index.leaves c.args.index.now in
    let name = c.args.name.now in
    let both = below-halves name leaves (g.met.I.Index.are_leaves c.args.index.now).tile c.child.result c.child-in-Halves.result c.child.ensures c.child-in-Halves.ensures c.in-Halves.ensures.0 c.in-Halves.ensures.1 in
    let sum : c.push_whole.new.steps + length (subtree c.child-in-Halves.result leaves) ≡ c.args.steps.now + length (subtree name leaves) =
    omega (arith, c.in_ok-push_whole-in-Halves.ensures.exact, ap length both, length-append (subtree c.child.result leaves) (subtree c.child-in-Halves.result leaves)) in
    subst (λ n. OnOk c.push_whole-in-Halves.result (c.push_whole-in-Halves.new.steps ≡ n)) sum c.push_whole-in-Halves.ensures.exact

pub child-requires-in-Halves : goal.child-requires-in-Halves
child-requires-in-Halves g t c =
    inner-room c.args.name.now (g.I.Index.leaves c.args.index.now) (g.met.I.Index.are_leaves c.args.index.now).tile c.in-Halves.ensures.0

pub push_whole-requires : goal.push_whole-requires
push_whole-requires g t c κs within =
    let name = c.args.name.now in
    let room : length name < 64 = inner-room c.args.name.now (g.I.Index.leaves c.args.index.now) (g.met.I.Index.are_leaves c.args.index.now).tile c.in-Halves.ensures.0 in
    let longer : length c.child.result ≡ length name + 1 = ap length c.child.ensures ∙ length-append name (false ∷ []) in
    let there = subst (g.I.Index.is_at c.args.index.now c.in-Halves.zero.now) (sym c.child.ensures) c.in-Halves.ensures.2 in
    (omega (arith, room, longer), (search rules, (search rules, (search rules, there))))

pub push_whole-requires-in-Halves : goal.push_whole-requires-in-Halves
push_whole-requires-in-Halves g t c κs within =
    let name = c.args.name.now in
    let room : length name < 64 = inner-room c.args.name.now (g.I.Index.leaves c.args.index.now) (g.met.I.Index.are_leaves c.args.index.now).tile c.in-Halves.ensures.0 in
    let longer : length c.child-in-Halves.result ≡ length name + 1 = ap length c.child-in-Halves.ensures ∙ length-append name (true ∷ []) in
    let there = subst (g.I.Index.is_at c.args.index.now c.in-Halves.one.now) (sym c.child-in-Halves.ensures) c.in-Halves.ensures.3 in
    (omega (arith, room, longer), (search rules, (search rules, (search rules, there))))
