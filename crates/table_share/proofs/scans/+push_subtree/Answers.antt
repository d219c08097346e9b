use Rattle.std.proofs.Common.{◌≡◌, ◌+◌, ◌++◌, ◌∷◌, ◌∙◌, [], Bool, List, OnOk, length, length-append, true, false, refl, sym, ap, subst, arith, ◌<◌, rules}
use Rattle.std.specs.Arc.{arc_value}
use Rattle.bucket_versions.specs.declared.row.Row.{Row}
use Rattle.index_layer.specs.Leaves.{Leaf}
use Rattle.table_share.specs.Subtree.{subtree, shares_key, leaves_of, leaves_between}
use Rattle.table_share.proofs.Subtrees.{whenever, inner-room, passing-both, passing-leaf, subtree-failing}
use Rattle.table_share.proofs.SharedKeys.{shares_key-narrows, found_one, found_two, found_none}
use Rattle.table_share.proofs.scans.+push_subtree.Goals as goal

pub returns-then-not-shares-clause-rows : goal.returns-then-not-shares-clause-rows
returns-then-not-shares-clause-rows g t c =
    let leaves : List Leaf = g.I.Index.leaves c.args.index.now in
    let fails : shares_key c.args.lo c.args.hi c.args.name.now ≡ false = sym c.shares.ensures ∙ c.if-not-shares.true in
    let none = subtree-failing (shares_key c.args.lo c.args.hi) (shares_key-narrows c.args.lo c.args.hi) c.args.name.now 0 leaves (g.met.I.Index.are_leaves c.args.index.now).tile fails in
    found_none c.args.lo c.args.hi c.args.found.now.items (leaves_between c.args.lo c.args.hi (subtree c.args.name.now leaves)) none

pub returns-then-not-shares-clause-exact : goal.returns-then-not-shares-clause-exact
returns-then-not-shares-clause-exact g t c =
    let leaves : List Leaf = g.I.Index.leaves c.args.index.now in
    let fails : shares_key c.args.lo c.args.hi c.args.name.now ≡ false = sym c.shares.ensures ∙ c.if-not-shares.true in
    let none = subtree-failing (shares_key c.args.lo c.args.hi) (shares_key-narrows c.args.lo c.args.hi) c.args.name.now 0 leaves (g.met.I.Index.are_leaves c.args.index.now).tile fails in
    omega (arith, ap length none)

pub child-requires : goal.child-requires
child-requires g t c =
    inner-room c.args.name.now (g.I.Index.leaves c.args.index.now) (g.met.I.Index.are_leaves c.args.index.now).tile c.in-Halves.ensures.0

pub returns-in_err-push_subtree-in-Halves-clause-opened : goal.returns-in_err-push_subtree-in-Halves-clause-opened
returns-in_err-push_subtree-in-Halves-clause-opened g t c =
    let leaves : List Leaf = g.I.Index.leaves c.args.index.now in
    let name = c.args.name.now in
    let passes : List Bool → Bool = shares_key c.args.lo c.args.hi in
    let both = passing-both passes leaves (g.met.I.Index.are_leaves c.args.index.now).tile name c.child.result (name ++ true ∷ []) c.child.ensures refl c.in-Halves.ensures.0 c.in-Halves.ensures.1 in
    omega (arith, c.push_subtree.ensures.opened, ap length both, length-append (leaves_of passes (subtree c.child.result leaves)) (leaves_of passes (subtree (name ++ true ∷ []) leaves)))

pub returns-in-Leaf-clause-rows : goal.returns-in-Leaf-clause-rows
returns-in-Leaf-clause-rows g t c =
    let leaves : List Leaf = g.I.Index.leaves c.args.index.now in
    let name = c.args.name.now in
    let found = c.args.found.now.items in
    let passes : List Bool → Bool = shares_key c.args.lo c.args.hi in
    let one = passing-leaf passes leaves (g.met.I.Index.are_leaves c.args.index.now).tile name (arc_value c.in-Leaf.bucket.now) c.in-Leaf.ensures (sym c.shares.ensures ∙ c.if-not-shares.false) in
    subst (λ (rs : List Row). OnOk c.push_between.result (c.push_between.new.found.items ≡ rs))
    (found_one c.args.lo c.args.hi found c.deref.result.now.rows (leaves_of passes (subtree name leaves)) name (arc_value c.in-Leaf.bucket.now) (ap (λ b. b.rows) c.deref.ensures) one)
    c.push_between.ensures.rows

pub returns-in-Leaf-clause-opened : goal.returns-in-Leaf-clause-opened
returns-in-Leaf-clause-opened g t c =
    let leaves : List Leaf = g.I.Index.leaves c.args.index.now in
    let passes : List Bool → Bool = shares_key c.args.lo c.args.hi in
    let one = passing-leaf passes leaves (g.met.I.Index.are_leaves c.args.index.now).tile c.args.name.now (arc_value c.in-Leaf.bucket.now) c.in-Leaf.ensures (sym c.shares.ensures ∙ c.if-not-shares.false) in
    omega (arith, c.push_between.ensures.opened, ap length one)

pub returns-in-Leaf-clause-exact : goal.returns-in-Leaf-clause-exact
returns-in-Leaf-clause-exact g t c =
    let leaves : List Leaf = g.I.Index.leaves c.args.index.now in
    let passes : List Bool → Bool = shares_key c.args.lo c.args.hi in
    let one = passing-leaf passes leaves (g.met.I.Index.are_leaves c.args.index.now).tile c.args.name.now (arc_value c.in-Leaf.bucket.now) c.in-Leaf.ensures (sym c.shares.ensures ∙ c.if-not-shares.false) in
    whenever c.push_between.result (omega (arith, c.push_between.ensures.opened, ap length one))

pub returns-in_ok-push_subtree-in-Halves-clause-rows : goal.returns-in_ok-push_subtree-in-Halves-clause-rows
returns-in_ok-push_subtree-in-Halves-clause-rows g t c =
    let leaves : List Leaf = g.I.Index.leaves c.args.index.now in
    let name = c.args.name.now in
    let found = c.args.found.now.items in
    let passes : List Bool → Bool = shares_key c.args.lo c.args.hi in
    let zero : List Leaf = leaves_of passes (subtree c.child.result leaves) in
    let one : List Leaf = leaves_of passes (subtree c.child-in-Halves.result leaves) in
    let both = passing-both passes leaves (g.met.I.Index.are_leaves c.args.index.now).tile name c.child.result c.child-in-Halves.result c.child.ensures c.child-in-Halves.ensures c.in-Halves.ensures.0 c.in-Halves.ensures.1 in
    subst (λ (rs : List Row). OnOk c.push_subtree-in-Halves.result (c.push_subtree-in-Halves.new.found.items ≡ rs))
    (found_two c.args.lo c.args.hi found c.push_subtree.new.found.items (leaves_of passes (subtree name leaves)) zero one both c.in_ok-push_subtree-in-Halves.ensures.rows)
    c.push_subtree-in-Halves.ensures.rows

pub returns-in_ok-push_subtree-in-Halves-clause-opened : goal.returns-in_ok-push_subtree-in-Halves-clause-opened
returns-in_ok-push_subtree-in-Halves-clause-opened g t c =
    let leaves : List Leaf = g.I.Index.leaves c.args.index.now in
    let name = c.args.name.now in
    let passes : List Bool → Bool = shares_key c.args.lo c.args.hi in
    let both = passing-both passes leaves (g.met.I.Index.are_leaves c.args.index.now).tile name c.child.result c.child-in-Halves.result c.child.ensures c.child-in-Halves.ensures c.in-Halves.ensures.0 c.in-Halves.ensures.1 in
    omega (
      arith,
      c.in_ok-push_subtree-in-Halves.ensures.exact,
      c.push_subtree-in-Halves.ensures.opened,
      ap length both,
      length-append (leaves_of passes (subtree c.child.result leaves)) (leaves_of passes (subtree c.child-in-Halves.result leaves)),
    )

pub returns-in_ok-push_subtree-in-Halves-clause-exact : goal.returns-in_ok-push_subtree-in-Halves-clause-exact
returns-in_ok-push_subtree-in-Halves-clause-exact g t c =
    let leaves : List Leaf = g.I.Index.leaves c.args.index.now in
    let name = c.args.name.now in
    let passes : List Bool → Bool = shares_key c.args.lo c.args.hi in
    let both = passing-both passes leaves (g.met.I.Index.are_leaves c.args.index.now).tile name c.child.result c.child-in-Halves.result c.child.ensures c.child-in-Halves.ensures c.in-Halves.ensures.0 c.in-Halves.ensures.1 in
    let sum : c.push_subtree.new.steps + length (leaves_of passes (subtree c.child-in-Halves.result leaves)) ≡ c.args.steps.now + length (leaves_of passes (subtree name leaves)) =
    omega (arith, c.in_ok-push_subtree-in-Halves.ensures.exact, ap length both, length-append (leaves_of passes (subtree c.child.result leaves)) (leaves_of passes (subtree c.child-in-Halves.result leaves))) in
    subst (λ n. OnOk c.push_subtree-in-Halves.result (c.push_subtree-in-Halves.new.steps ≡ n)) sum c.push_subtree-in-Halves.ensures.exact

pub child-requires-in-Halves : goal.child-requires-in-Halves
child-requires-in-Halves g t c =
    inner-room c.args.name.now (g.I.Index.leaves c.args.index.now) (g.met.I.Index.are_leaves c.args.index.now).tile c.in-Halves.ensures.0

pub push_subtree-requires : goal.push_subtree-requires
push_subtree-requires g t c κs within =
    let name = c.args.name.now in
    let room : length name < 64 = inner-room c.args.name.now (g.I.Index.leaves c.args.index.now) (g.met.I.Index.are_leaves c.args.index.now).tile c.in-Halves.ensures.0 in
    let longer : length c.child.result ≡ length name + 1 = ap length c.child.ensures ∙ length-append name (false ∷ []) in
    (omega (arith, room, longer), (search rules, (search rules, (search rules, subst (g.I.Index.is_at c.args.index.now c.in-Halves.zero.now) (sym c.child.ensures) c.in-Halves.ensures.2))))

pub push_subtree-requires-in-Halves : goal.push_subtree-requires-in-Halves
push_subtree-requires-in-Halves g t c κs within =
    let name = c.args.name.now in
    let room : length name < 64 = inner-room c.args.name.now (g.I.Index.leaves c.args.index.now) (g.met.I.Index.are_leaves c.args.index.now).tile c.in-Halves.ensures.0 in
    let longer : length c.child-in-Halves.result ≡ length name + 1 = ap length c.child-in-Halves.ensures ∙ length-append name (true ∷ []) in
    (omega (arith, room, longer), (search rules, (search rules, (search rules, subst (g.I.Index.is_at c.args.index.now c.in-Halves.one.now) (sym c.child-in-Halves.ensures) c.in-Halves.ensures.3))))
