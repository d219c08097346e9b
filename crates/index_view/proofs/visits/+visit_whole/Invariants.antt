use Rattle.std.proofs.Common.{◌-◌, length}
use Rattle.index_view.proofs.visits.+visit_whole.Given as goal

abbrev pub decreases-visit_whole : goal.decreases-visit_whole
decreases-visit_whole g l = 64 - length l.name.now
