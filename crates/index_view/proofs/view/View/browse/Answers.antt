use Rattle.std.proofs.Common.{◌≡◌, List, ap, subst}
use Rattle.index_layer.specs.Leaves.{Leaf}
use Rattle.plain_list.specs.Queries.{ranked}
use Rattle.table_share.specs.Standing.{OfPlaces}
use Rattle.browse_query.specs.Coming.{AreNoMore}
use Rattle.index_view.proofs.view.View.browse.Goals as goal

pub returns-clause-objects : goal.returns-clause-objects
returns-clause-objects g c =
    subst (λ (leaves : List Leaf). OfPlaces leaves (λ places. c.new.result.objects ≡ ranked c.args.at places)) (ap (λ s. s.leaves) c.self.view_is) c.new.ensures.objects

pub returns-clause-leaves : goal.returns-clause-leaves
returns-clause-leaves g c = subst (λ (leaves : List Leaf). AreNoMore c.new.result.leaves leaves) (ap (λ s. s.leaves) c.self.view_is) c.new.ensures.leaves
