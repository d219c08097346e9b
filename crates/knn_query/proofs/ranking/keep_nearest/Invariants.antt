use Rattle.std.proofs.Common.{◌≤◌}
use Rattle.std.specs.List.{sum_by}
use Rattle.std.specs.BinaryHeap.{heap_items, IsHeap}
use Rattle.knn_query.specs.Ahead.{weight_of}
use Rattle.knn_query.specs.Search.{State}
use Rattle.knn_query.specs.Waiting.{ahead_of, waiting_cmp, AreAt}
use Rattle.knn_query.proofs.ranking.keep_nearest.Given as goal

-- what is ahead has the objects that are still to come, and the leaves that weren't opened; each place is that of its name
abbrev pub invariant-loop-next : goal.invariant-loop-next
invariant-loop-next g l =
    State l.fn.kept.from l.fn.kept.k (g.I.Index.leaves l.index) l.fn.steps l.steps (ahead_of (heap_items l.waiting)) l.kept
    × (l.fn.steps ≤ l.steps) × AreAt (g.I.Index.is_at l.index) (heap_items l.waiting) × IsHeap waiting_cmp (heap_items l.waiting)

abbrev pub decreases-loop-next : goal.decreases-loop-next
decreases-loop-next g l = sum_by weight_of (ahead_of (heap_items l.waiting))
