use Rattle.std.proofs.Common.{◌≡◌, ◌∷◌, List, length, arith}
use Rattle.std.proofs.lemmas.List.{nil_from_length}
use Rattle.std.specs.BinaryHeap.{heap_items}
use Rattle.std.proofs.lemmas.List.Sums.{sum_by-cons}
use Rattle.bucket_versions.specs.declared.row.Row.{Row}
use Rattle.index_layer.specs.Leaves.{Leaf, all_rows}
use Rattle.table_share.specs.Subtree.{subtree}
use Rattle.table_share.proofs.Subtrees.{inner-room}
use Rattle.knn_query.specs.Ahead.{weight_of}
use Rattle.knn_query.specs.Waiting.{ahead_of}
use Rattle.knn_query.specs.declared.ahead.Ahead.{Ahead}
use Rattle.knn_query.proofs.Goings.{goes_down}
use Rattle.knn_query.proofs.Places.{at-down}
use Rattle.knn_query.proofs.Steps.{state-bare, weight-some}
use Rattle.knn_query.proofs.ranking.nearest_leaf.Goals as goal

pub returns-in-Leaf-clause-leads : goal.returns-in-Leaf-clause-leads
returns-in-Leaf-clause-leads g c =
    let goes = c.down.invariant.0 in
    let a : Ahead = c.down.ahead in
    let others : List Ahead = ahead_of (heap_items c.down.waiting) in
    record {
      leaf = a;
      found = c.in-Leaf.ensures;
      wanted = goes.wanted;
      less = omega (arith, goes.less, sum_by-cons weight_of a others, weight-some a goes.wanted.is.short);
      state = goes.state;
    }

pub returns-clause-leads : goal.returns-clause-leads
returns-clause-leads g c =
    let leaves : List Leaf = g.I.Index.leaves c.args.index.now in
    let goes = c.down.invariant.0 in
    let a : Ahead = c.down.ahead in
    let others : List Ahead = ahead_of (heap_items c.down.waiting) in
    let rows : List Row = all_rows (subtree a.name leaves) in
    let none : length rows ≡ 0 = omega (arith, c.count_below.ensures, c.down-test.false) in
    record {
      less = omega (arith, goes.less, sum_by-cons weight_of a others, weight-some a goes.wanted.is.short);
      state = λ p k before now s. state-bare p k leaves before now a others c.args.kept.now (nil_from_length rows none) (goes.state p k before now s);
    }

pub halves_at-near-requires-clause-room : goal.halves_at-near-requires-clause-room
halves_at-near-requires-clause-room g c =
    inner-room c.down.ahead.name (g.I.Index.leaves c.args.index.now) (g.met.I.Index.are_leaves c.args.index.now).tile c.in-Halves.ensures.0

pub down-preserved : goal.down-preserved
down-preserved g c =
    let leaves : List Leaf = g.I.Index.leaves c.args.index.now in
    let tile = (g.met.I.Index.are_leaves c.args.index.now).tile in
    let kept = c.args.kept.now in
    let begun : List Ahead = c.args.first ∷ ahead_of (heap_items c.args.waiting.now) in
    let near = c.halves_at-near.result.0 in
    let far = c.halves_at-near.result.1 in
    let old = heap_items c.down.waiting in
    let new = heap_items c.put_far.new.waiting in
    let zero = c.in-Halves.zero in
    let one = c.in-Halves.one in
    let halves = c.halves_at-near.ensures in
    let at = at-down (g.I.Index.is_at c.args.index.now) kept.from c.down.ahead zero one near far halves c.in-Halves.ensures.2 c.in-Halves.ensures.3 kept old new c.down.invariant.2 c.in_ok-put_far-in-Halves.ensures.put in (
      goes_down leaves tile kept begun c.down.ahead old new zero one near far c.in-Halves.ensures.0 c.in-Halves.ensures.1 c.down.invariant.0 halves c.in_ok-put_far-in-Halves.ensures.put,
      at.0,
      at.1,
      c.in_ok-put_far-in-Halves.ensures.ordered c.down.invariant.3,
    )
