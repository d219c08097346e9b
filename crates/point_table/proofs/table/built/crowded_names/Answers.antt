use Rattle.std.proofs.Common.{◌∙◌, ◌++◌, List, sym, ap}
use Rattle.std.proofs.lemmas.List.{append-nil}
use Rattle.index_layer.specs.Leaves.{Leaf}
use Rattle.point_table.specs.Crowds.{crowded_of}
use Rattle.point_table.proofs.table.built.crowded_names.Goals as goal

pub returns : goal.returns
returns g c =
    let names = c.loop-leaf.names.items in
    sym (append-nil names)
    ∙ ap (λ (left : List Leaf). names ++ crowded_of g.I.Index.WIDTH c.args.size left) (sym c.in_default.ensures.0)
    ∙ c.loop-leaf.invariant
