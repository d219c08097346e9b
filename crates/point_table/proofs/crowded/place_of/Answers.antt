use Rattle.std.proofs.Common.{sym, ltb, List, Bool, rules}
use Rattle.std.proofs.lemmas.List.Sorted.{IsPartitionPoint-from_clause, IsPartitionedBy-ltb}
use Rattle.zorder.specs.Name.{first_key}
use Rattle.point_table.proofs.Rising.{keys_rise, key_place-point}
use Rattle.point_table.proofs.crowded.place_of.Goals as goal

pub returns-clause-place : goal.returns-clause-place
returns-clause-place c =
    let i = c.partition_point.result in
    let parted = IsPartitionedBy-ltb first_key c.args.names.now c.bits-key.result (keys_rise c.args.names.now c.requires) in
    let point = IsPartitionPoint-from_clause (λ (n : List Bool). ltb (first_key n) c.bits-key.result) c.args.names.now i c.partition_point.ensures.partitioned parted (λ a r q k. search rules) in
    sym (key_place-point c.args.name.now c.args.names.now i
    (rw (← c.bits-key.ensures) point.0) (rw (← c.bits-key.ensures) point.1) c.partition_point.ensures.bound)
