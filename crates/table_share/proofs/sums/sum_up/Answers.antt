use Rattle.std.proofs.Common.{rules}
use Rattle.table_share.proofs.SumsFacts.{summed, sums-of_places}
use Rattle.table_share.proofs.sums.sum_up.Goals as goal

pub returns-clause-sums : goal.returns-clause-sums
returns-clause-sums g c places names are_places stands =
    sums-of_places _ places names _ are_places stands (summed _ (λ p r q step. search rules) _ _ _ c.for_rows.ensures.folded)
