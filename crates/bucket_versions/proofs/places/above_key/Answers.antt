use Rattle.std.proofs.Common.{◌≡◌, ◌∙◌, ℕ, sym, subst, get_or, drop, leb, ltb, true, false, arith, rules}
use Rattle.std.specs.List.{filter}
use Rattle.std.proofs.lemmas.List.{take_rest}
use Rattle.std.proofs.lemmas.List.Sorted.{IsPartitionPoint-from_clause, IsPartitionedBy-leb}
use Rattle.std.proofs.lemmas.Bool.Decides.{nat_tests}
use Rattle.bucket_versions.specs.declared.row.Row.{Row}
use Rattle.bucket_versions.specs.Rows.{IsRows}
use Rattle.bucket_versions.proofs.RowOrder.{IsRows-filter}
use Rattle.bucket_versions.proofs.RowFilters.{filter-drop, keys_rise}
use Rattle.bucket_versions.proofs.places.above_key.Goals as goal

not_above : (least key : ℕ) → leb key least ≡ true → ltb least key ≡ false
not_above least key e = grind (arith, nat_tests)

above : (least key : ℕ) → leb key least ≡ false → ltb least key ≡ true
above least key e = grind (arith, nat_tests)

pub returns : goal.returns
returns c =
    let i = c.partition_point-start.result in
    let parted = IsPartitionedBy-leb (λ (r : Row). r.key) c.args.rows.now c.args.key (keys_rise c.args.rows.now c.requires) in
    let point = IsPartitionPoint-from_clause (λ (r : Row). leb r.key c.args.key) c.args.rows.now i c.partition_point-start.ensures.partitioned parted (λ a r q k. search rules) in
    let rows : filter (λ r. ltb c.args.key r.key) c.args.rows.now ≡ drop i c.args.rows.now =
    filter-drop (λ (r : Row). ltb c.args.key r.key) c.args.rows.now i
    (λ k d from to. not_above c.args.key (get_or c.args.rows.now k d).key (point.0 k d from to))
    (λ k d from to. above c.args.key (get_or c.args.rows.now k d).key (point.1 k d from to))
    c.partition_point-start.ensures.bound in
    let same = take_rest c.args.rows.now i ∙ sym rows in
    record { rows = same; in_order = subst IsRows (sym same) (IsRows-filter (λ (r : Row). ltb c.args.key r.key) c.args.rows.now c.requires) }
