use Rattle.std.proofs.Common.{◌≡◌, ◌∙◌, ◌+◌, ◌≤◌, ◌^◌, ⊎_elim, ap, sym, subst, map, length, arith}
use Rattle.std.proofs.lemmas.List.{length-map}
use Rattle.std.specs.Arc.{arc_value}
use Rattle.zorder.specs.Tile.{children}
use Rattle.index_layer.specs.Leaves.{AreAllUnder}
use Rattle.index_layer.proofs.FoundLeaves.{found_named}
use Rattle.index_layer.proofs.LeafChanges.{length-children}
use Rattle.split_prepare.specs.Cut.{cut, cut_out}
use Rattle.index_build.proofs.ChildNames.{AreAllUnder-cut}
use Rattle.crate_tests.proofs.index.below.split_over.Goals as goal

pub divide-requires-clause-leaf : goal.divide-requires-clause-leaf
divide-requires-clause-leaf g c = (found_named c.args.key (g.I.Index.leaves c.args.index.now) _ c.leaf_of-name.ensures).0

pub divide-requires-clause-children : goal.divide-requires-clause-children
divide-requires-clause-children g c =
    let w = g.I.Index.WIDTH in
    let name = c.leaf_of-name.result.0 in
    let base = c.deref.result.now.base in
    let items = c.deref-2.result.now in
    let short : length name + w ≤ 64 =
    ⊎_elim (λ one. omega (arith, one, c.len.ensures.len, c.if-len-ge-MOST_BITS.false)) (λ two. omega (arith, two, c.len.ensures.len, c.if-len-ge-MOST_BITS.false)) g.met.I.Index.width in
    let is : map arc_value items ≡ cut w name base = ap (map arc_value) c.deref-2.ensures.value ∙ c.in_ok-children.ensures ∙ ap (λ v. cut v name base) c.WIDTH.ensures in
    let count : length items ≡ 2 ^ w = sym (length-map items arc_value) ∙ ap length is ∙ length-map (children w name) (cut_out base) ∙ length-children w name in
    (count, subst (AreAllUnder w name) (sym is) (AreAllUnder-cut w name base short))
