use Rattle.browse_query.specs.Front.{work}
use Rattle.browse_query.proofs.Fronts.{Gone}
use Rattle.browse_query.proofs.front.next_of.Given as goal

-- the same objects are to come, and only leaves as near as the first of them were opened
abbrev pub invariant-down : goal.invariant-down
invariant-down g l = Gone (g.I.Index.leaves l.index) (g.I.Index.is_at l.index) l.fn.steps l.steps l.fn.front l.front

abbrev pub decreases-down : goal.decreases-down
decreases-down g l = work l.front
