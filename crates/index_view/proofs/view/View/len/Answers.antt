use Rattle.std.proofs.Common.{List, sym, ap, subst, ◌∙◌}
use Rattle.index_layer.specs.Leaves.{Leaf}
use Rattle.index_layer.specs.Stands.{Stands}
use Rattle.index_view.proofs.Numbers.{number_below_whole}
use Rattle.index_view.proofs.view.View.len.Goals as goal

pub returns : goal.returns
returns g c places names are_places stands =
    let leaves : List Leaf = g.I.Index.leaves c.self.inside.index in
    let there : Stands leaves places names = subst (λ (ls : List Leaf). Stands ls places names) (sym (ap (λ s. s.leaves) c.self.view_is)) stands in
    c.count_below.ensures ∙ number_below_whole c.whole.result leaves places names c.whole.ensures are_places there
