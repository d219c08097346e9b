use Rattle.std.proofs.Common.{arith}
use Rattle.std.specs.BinaryHeap.{heap_items}
use Rattle.zorder.specs.Distance.{distance}
use Rattle.knn_query.proofs.Keeping.{bound-nearer, distance-fits}
use Rattle.knn_query.proofs.kept.Kept.farthest.Goals as goal

pub returns-in-Some : goal.returns-in-Some
returns-in-Some c m at far =
    let kept = c.args.self.now in
    record {
      full = omega (arith, c.if-self-len.true, c.len.ensures, kept.heap.data.ok.0);
      near = bound-nearer (distance m.at kept.from) c.in-Some.farthest.now (heap_items kept.heap) (c.in-Some.ensures.greatest c.requires.ordered) far;
    }

pub returns-in_default : goal.returns-in_default
returns-in_default c m at far = absurd (omega (arith, far, distance-fits m.at c.args.self.now.from at c.coordinates_fit.ensures))
