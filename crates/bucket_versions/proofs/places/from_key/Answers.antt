use Rattle.std.proofs.Common.{◌≡◌, ◌∙◌, ℕ, sym, get_or, leb, ltb, true, false, arith, rules}
use Rattle.std.proofs.lemmas.List.{take_rest}
use Rattle.std.proofs.lemmas.List.Sorted.{IsPartitionPoint-from_clause, IsPartitionedBy-ltb}
use Rattle.std.proofs.lemmas.Bool.Decides.{nat_tests}
use Rattle.bucket_versions.specs.declared.row.Row.{Row}
use Rattle.bucket_versions.proofs.RowFilters.{filter-drop, keys_rise}
use Rattle.bucket_versions.proofs.places.from_key.Goals as goal

not_least : (lo key : ℕ) → ltb key lo ≡ true → leb lo key ≡ false
not_least lo key e = grind (arith, nat_tests)

least : (lo key : ℕ) → ltb key lo ≡ false → leb lo key ≡ true
least lo key e = grind (arith, nat_tests)

pub returns : goal.returns
returns c =
    let i = c.partition_point-start.result in
    let parted = IsPartitionedBy-ltb (λ (r : Row). r.key) c.args.rows.now c.args.lo (keys_rise c.args.rows.now c.requires) in
    let point = IsPartitionPoint-from_clause (λ (r : Row). ltb r.key c.args.lo) c.args.rows.now i c.partition_point-start.ensures.partitioned parted (λ a r q k. search rules) in
    take_rest c.args.rows.now i
    ∙ sym (filter-drop (λ (r : Row). leb c.args.lo r.key) c.args.rows.now i
    (λ k d from to. not_least c.args.lo (get_or c.args.rows.now k d).key (point.0 k d from to))
    (λ k d from to. least c.args.lo (get_or c.args.rows.now k d).key (point.1 k d from to))
    c.partition_point-start.ensures.bound)
