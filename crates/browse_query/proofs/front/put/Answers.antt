use Rattle.std.proofs.Common.{sym, subst}
use Rattle.std.specs.BinaryHeap.{IsHeap}
use Rattle.knn_query.specs.Waiting.{waiting_cmp}
use Rattle.browse_query.proofs.front.put.Goals as goal

pub returns-clause-ordered : goal.returns-clause-ordered
returns-clause-ordered g c = c.in_ok-push.ensures.heap_order (subst (IsHeap waiting_cmp) (sym c.reserve.ensures.items) c.requires)
