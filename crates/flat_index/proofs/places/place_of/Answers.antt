use Rattle.std.proofs.Common.{◌≡◌, ◌∙◌, ℕ, ◌-◌, ◌^◌, ◌<◌, [], ap, get_or, leb, Some, arith, rules}
use Rattle.std.proofs.lemmas.List.Sorted.{IsPartitionPoint-from_clause, IsPartitionedBy-leb}
use Rattle.zorder.specs.Name.{first_key}
use Rattle.index_layer.specs.Leaves.{Leaf}
use Rattle.flat_index.specs.declared.leaf.FlatLeaf.{FlatLeaf}
use Rattle.flat_index.specs.Seen.{seen}
use Rattle.flat_index.proofs.SeenLeaves.{seen_keys_rise, place_is}
use Rattle.flat_index.proofs.places.place_of.Goals as goal

no_leaf : Leaf
no_leaf = record { name = []; bucket = record { base = []; rows = [] } }

pub overflow_sub-result : goal.overflow_sub-result
overflow_sub-result c =
    let fits : c.args.key < 2 ^ 64 = omega arith in
    let parted = IsPartitionedBy-leb (λ (x : FlatLeaf). first_key x.name) c.args.leaves.now c.args.key (seen_keys_rise c.args.leaves.now c.requires.tile) in
    let point = IsPartitionPoint-from_clause (λ (x : FlatLeaf). leb (first_key x.name) c.args.key) c.args.leaves.now c.partition_point-end.result c.partition_point-end.ensures.partitioned parted (λ a r q k. search rules) in
    let got = place_is c.args.leaves.now c.args.key c.partition_point-end.result c.requires.tile fits point.0 point.1 c.partition_point-end.ensures.bound no_leaf in
    omega (arith, got.1)

pub returns-clause-found : goal.returns-clause-found
returns-clause-found c = λ d.
    let fits : c.args.key < 2 ^ 64 = omega arith in
    let parted = IsPartitionedBy-leb (λ (x : FlatLeaf). first_key x.name) c.args.leaves.now c.args.key (seen_keys_rise c.args.leaves.now c.requires.tile) in
    let point = IsPartitionPoint-from_clause (λ (x : FlatLeaf). leb (first_key x.name) c.args.key) c.args.leaves.now c.partition_point-end.result c.partition_point-end.ensures.partitioned parted (λ a r q k. search rules) in
    let got = place_is c.args.leaves.now c.args.key c.partition_point-end.result c.requires.tile fits point.0 point.1 c.partition_point-end.ensures.bound d in
    let before : got.0 ≡ c.partition_point-end.result - 1 = omega (arith, got.1) in
    got.2 ∙ ap (λ (j : ℕ). Some (get_or (seen c.args.leaves.now) j d)) before
