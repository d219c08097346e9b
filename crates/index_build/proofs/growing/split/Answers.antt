use Rattle.std.proofs.Common.{◌≡◌, ◌∙◌, ◌^◌, ap, sym, subst, map, length}
use Rattle.std.proofs.lemmas.List.{length-map}
use Rattle.std.specs.Arc.{arc_value}
use Rattle.index_layer.specs.Leaves.{AreAllUnder}
use Rattle.zorder.specs.Tile.{children}
use Rattle.split_prepare.specs.Cut.{cut, cut_out}
use Rattle.index_layer.proofs.LeafChanges.{length-children}
use Rattle.index_build.proofs.ChildNames.{AreAllUnder-cut}
use Rattle.index_build.proofs.growing.split.Goals as goal

pub divide-requires-clause-children : goal.divide-requires-clause-children
divide-requires-clause-children g c =
    let w = g.I.Index.WIDTH in
    let name = c.args.name.now in
    let is : map arc_value c.deref.result.now ≡ cut w name c.args.whole.now.base = ap (map arc_value) c.deref.ensures.value ∙ c.in_ok-children.ensures ∙ ap (λ v. cut v name c.args.whole.now.base) c.WIDTH.ensures in
    let count : length c.deref.result.now ≡ 2 ^ w =
    sym (length-map c.deref.result.now arc_value) ∙ ap length is ∙ length-map (children w name) (cut_out c.args.whole.now.base) ∙ length-children w name in
    (count, subst (AreAllUnder w name) (sym is) (AreAllUnder-cut w name c.args.whole.now.base c.requires.short))
