use Rattle.std.proofs.Common.{ℕ, ◌+◌, ◌-◌, ◌^◌, List, length, ap, sym, ◌∙◌, arith, rules, min}
use Rattle.std.specs.Arc.{arc_value}
use Rattle.bucket_versions.specs.Rows.{Rows}
use Rattle.index_layer.specs.Leaves.{Leaf, all_rows, leaf_under}
use Rattle.index_layer.proofs.CountedLeaves.{none-below, counts-first, counts-all, counts-on, counts-next}
use Rattle.index_layer.proofs.LeafChanges.{leaf_at}
use Rattle.index_layer.proofs.index.Index.count_below.Goals as goal

pub returns-then-len : goal.returns-then-len
returns-then-len g c =
    let leaves = g.Self.Index.leaves c.args.self.now in
    let found = ap (λ (k : ℕ). leaf_under k leaves) (sym c.key_range-first.ensures.first) ∙ c.leaf_of-found.ensures in
    let leaf = leaf_at c.leaf_of-found.result.0 (arc_value c.leaf_of-found.result.1.now) in
    let none = none-below leaves (g.met.Self.Index.are_leaves c.args.self.now).tile c.args.name.now c.key_range-first.ensures.most leaf found (omega (arith, c.if-len.true)) in
    ap (λ (ls : List Leaf). min (length (all_rows ls)) (2 ^ 64 - 1)) (sym none)

pub leaves-init : goal.leaves-init
leaves-init g c =
    let leaf = leaf_at c.leaf_of-found.result.0 (arc_value c.leaf_of-found.result.1.now) in
    counts-first (g.Self.Index.leaves c.args.self.now) (g.met.Self.Index.are_leaves c.args.self.now).tile c.args.name.now c.key_range-first.result.0 c.key_range-first.result.1 leaf c.key_range-first.ensures.most c.key_range-first.ensures.first c.key_range-first.ensures.last c.leaf_of-found.ensures (omega (arith, c.if-len.false))

pub returns-then-last-end : goal.returns-then-last-end
returns-then-last-end g c =
    let leaf = leaf_at c.leaf_of-leaf.result.0 (arc_value c.leaf_of-leaf.result.1.now) in
    let here = c.count.ensures.count ∙ ap (λ (b : Rows). length b.rows) c.deref.ensures in
    let sum = c.saturating_add-count.ensures ∙ ap (λ n. min (c.leaves.count + n) (2 ^ 64 - 1)) here in
    counts-all (g.Self.Index.leaves c.args.self.now) (g.met.Self.Index.are_leaves c.args.self.now).tile c.args.name.now c.key_range-first.result.1 c.leaves.key c.leaves.count c.saturating_add-count.result c.key_range-end.result.1 leaf c.leaves.invariant c.leaf_of-leaf.ensures sum c.key_range-end.ensures.last (omega (arith, c.if-last-end.true))

pub leaves-smaller : goal.leaves-smaller
leaves-smaller g c =
    let leaf = leaf_at c.leaf_of-leaf.result.0 (arc_value c.leaf_of-leaf.result.1.now) in
    let here = c.count.ensures.count ∙ ap (λ (b : Rows). length b.rows) c.deref.ensures in
    let sum = c.saturating_add-count.ensures ∙ ap (λ n. min (c.leaves.count + n) (2 ^ 64 - 1)) here in
    let on = counts-on (g.Self.Index.leaves c.args.self.now) (g.met.Self.Index.are_leaves c.args.self.now).tile c.args.name.now c.key_range-first.result.1 c.leaves.key c.leaves.count c.saturating_add-count.result c.key_range-end.result.1 leaf c.leaves.invariant c.leaf_of-leaf.ensures sum c.key_range-end.ensures.last in
    omega (arith, on, c.if-last-end.false)

pub leaves-preserved : goal.leaves-preserved
leaves-preserved g c =
    let leaf = leaf_at c.leaf_of-leaf.result.0 (arc_value c.leaf_of-leaf.result.1.now) in
    let here = c.count.ensures.count ∙ ap (λ (b : Rows). length b.rows) c.deref.ensures in
    let sum = c.saturating_add-count.ensures ∙ ap (λ n. min (c.leaves.count + n) (2 ^ 64 - 1)) here in
    counts-next (g.Self.Index.leaves c.args.self.now) (g.met.Self.Index.are_leaves c.args.self.now).tile c.args.name.now c.key_range-first.result.1 c.leaves.key c.leaves.count c.saturating_add-count.result c.key_range-end.result.1 leaf c.leaves.invariant c.leaf_of-leaf.ensures sum c.key_range-end.ensures.last (search rules) (omega (arith, c.if-last-end.false))
