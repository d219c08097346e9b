use Rattle.std.proofs.Common.{◌-◌, length}
use Rattle.index_view.proofs.visits.+visit_below.Given as goal

abbrev pub decreases-visit_below : goal.decreases-visit_below
decreases-visit_below g l = 64 - length l.name.now
