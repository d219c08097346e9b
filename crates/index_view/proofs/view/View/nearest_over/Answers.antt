use Rattle.std.proofs.Common.{◌≡◌, List, IfOk, take, ap, subst}
use Rattle.plain_list.specs.Queries.{ranked}
use Rattle.index_layer.specs.Leaves.{Leaf}
use Rattle.table_share.specs.Standing.{OfPlaces}
use Rattle.index_view.proofs.view.View.nearest_over.Goals as goal

pub returns : goal.returns
returns g c =
    subst (λ (leaves : List Leaf). OfPlaces leaves (λ places. IfOk c.nearest.result (λ list. list ≡ take c.args.k (ranked c.args.at places))))
    (ap (λ s. s.leaves) c.self.view_is) c.nearest.ensures.objects
