use Rattle.std.proofs.Common.{◌∷◌, ◌-◌, length}
use Rattle.std.specs.BinaryHeap.{heap_items, IsHeap}
use Rattle.knn_query.specs.Waiting.{ahead_of, waiting_cmp, AreAt}
use Rattle.knn_query.proofs.Goings.{Goes}
use Rattle.knn_query.proofs.ranking.nearest_leaf.Given as goal

-- what is next and what waits have all that is wanted of what was ahead; each place is that of its name
abbrev pub invariant-down : goal.invariant-down
invariant-down g l =
    Goes (g.I.Index.leaves l.index) l.kept (l.fn.first ∷ ahead_of (heap_items l.fn.waiting)) l.ahead (ahead_of (heap_items l.waiting))
    × g.I.Index.is_at l.index l.place l.ahead.name × AreAt (g.I.Index.is_at l.index) (heap_items l.waiting) × IsHeap waiting_cmp (heap_items l.waiting)

abbrev pub decreases-down : goal.decreases-down
decreases-down g l = 64 - length l.ahead.name
