use Rattle.std.proofs.Common.{◌≡◌, sym, subst, take, leb, rules}
use Rattle.std.specs.List.{filter}
use Rattle.std.proofs.lemmas.List.Sorted.{IsPartitionPoint-from_clause, IsPartitionedBy-leb}
use Rattle.bucket_versions.specs.declared.row.Row.{Row}
use Rattle.bucket_versions.specs.Rows.{IsRows}
use Rattle.bucket_versions.proofs.RowOrder.{IsRows-filter}
use Rattle.bucket_versions.proofs.RowFilters.{filter-take, keys_rise}
use Rattle.bucket_versions.proofs.places.up_to_key.Goals as goal

pub returns : goal.returns
returns c =
    let i = c.partition_point-end.result in
    let parted = IsPartitionedBy-leb (λ (r : Row). r.key) c.args.rows.now c.args.hi (keys_rise c.args.rows.now c.requires) in
    let point = IsPartitionPoint-from_clause (λ (r : Row). leb r.key c.args.hi) c.args.rows.now i c.partition_point-end.ensures.partitioned parted (λ a r q k. search rules) in
    let rows : filter (λ (r : Row). leb r.key c.args.hi) c.args.rows.now ≡ take i c.args.rows.now = filter-take (λ (r : Row). leb r.key c.args.hi) c.args.rows.now i point.0 point.1 c.partition_point-end.ensures.bound in
    record { rows = sym rows; in_order = subst IsRows rows (IsRows-filter (λ (r : Row). leb r.key c.args.hi) c.args.rows.now c.requires) }
