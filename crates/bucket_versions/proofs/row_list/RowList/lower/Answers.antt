use Rattle.std.proofs.Common.{◌≡◌, sym, subst, rules}
use Rattle.bucket_versions.specs.Rows.{IsRows}
use Rattle.bucket_versions.specs.Delta.{difference}
use Rattle.bucket_versions.proofs.RowSets.{IsRows-difference}
use Rattle.bucket_versions.proofs.row_list.RowList.lower.Goals as goal

pub above-requires : goal.above-requires
above-requires c =
    let base = c.parts.result.0.now in
    let delta = c.parts.result.1.now in
    let rows : c.in_ok-rows.rows.items ≡ difference base delta = search rules in
    subst IsRows (sym rows) (IsRows-difference base delta c.parts.ensures.in_order.base c.parts.ensures.in_order.delta)
