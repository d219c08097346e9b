use Rattle.std.proofs.Common.{◌≡◌, ◌≤◌, ◌-◌, ◌++◌, length}
use Rattle.index_view.proofs.browsed.first_of.Given as goal

-- the objects that were found, and those that are to come
abbrev pub invariant-loop-browse : goal.invariant-loop-browse
invariant-loop-browse g l =
    (l.found.items ++ l.browse.objects ≡ l.fn.browse.objects)
    × (length l.found.items ≤ l.most)

abbrev pub decreases-loop-browse : goal.decreases-loop-browse
decreases-loop-browse g l = l.most - length l.found.items
