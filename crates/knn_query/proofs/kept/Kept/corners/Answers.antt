use Rattle.std.proofs.Common.{◌<◌, length, refl, sym, subst, arith}
use Rattle.std.specs.BinaryHeap.{heap_items}
use Rattle.zorder.specs.Distance.{distance}
use Rattle.knn_query.specs.Candidates.{IsMeasured}
use Rattle.knn_query.proofs.Keeping.{bound-nearer, boxed}
use Rattle.knn_query.proofs.kept.Kept.corners.Goals as goal

pub returns-in-Some : goal.returns-in-Some
returns-in-Some c =
    let kept = c.args.self.now in
    let cs = heap_items kept.heap in
    let last = c.in-Some.farthest.now in
    let some : 0 < length cs = omega (arith, c.in-Some.ensures.variant.0 refl, kept.heap.data.ok.0) in
    let measured : IsMeasured kept.from last = subst (IsMeasured kept.from) (sym c.in-Some.ensures.lookup) (c.requires.measured 0 last some) in
    boxed kept c.cutting.result c.box_within.result c.cutting.ensures
    (λ m at outside. record {
      full = omega (arith, c.if-self-len.true, c.len.ensures, kept.heap.data.ok.0);
      near = bound-nearer (distance m.at kept.from) last cs (c.in-Some.ensures.greatest c.requires.ordered) (omega (arith, measured, c.box_within.ensures m.at at outside));
    })
