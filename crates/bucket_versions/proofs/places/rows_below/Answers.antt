use Rattle.std.proofs.Common.{sym, rules}
use Rattle.std.proofs.lemmas.List.Sorted.{IsPartitionPoint-from_clause}
use Rattle.bucket_versions.specs.declared.row.Row.{Row}
use Rattle.bucket_versions.specs.Rows.{is_below}
use Rattle.bucket_versions.proofs.RowPlaces.{below_first, row_place-point}
use Rattle.bucket_versions.proofs.places.rows_below.Goals as goal

pub returns-clause-place : goal.returns-clause-place
returns-clause-place c =
    let i = c.partition_point.result in
    let point = IsPartitionPoint-from_clause (λ (s : Row). is_below s c.args.row.now) c.args.rows.now i c.partition_point.ensures.partitioned (below_first c.args.row.now c.args.rows.now c.requires) (λ a r q k. search rules) in
    sym (row_place-point c.args.row.now c.args.rows.now i point.0 point.1 c.partition_point.ensures.bound)
