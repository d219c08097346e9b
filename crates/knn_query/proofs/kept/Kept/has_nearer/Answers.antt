use Rattle.std.proofs.Common.{arith}
use Rattle.std.specs.BinaryHeap.{heap_items}
use Rattle.knn_query.proofs.Keeping.{farthest-tells}
use Rattle.knn_query.proofs.kept.Kept.has_nearer.Goals as goal

pub returns-then-len-self : goal.returns-then-len-self
returns-then-len-self c =
    let kept = c.args.self.now in
    farthest-tells kept.from kept.k c.args.least c.in-Some.farthest.now (heap_items kept.heap) c.requires.held.measured (c.in-Some.ensures.greatest c.requires.held.ordered) c.in-Some.ensures.lookup c.requires.held.few
    (omega (arith, c.if-len-self.true, c.len.ensures, kept.heap.data.ok.0)) c.requires.some
