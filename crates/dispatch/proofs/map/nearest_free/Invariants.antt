use Rattle.std.proofs.Common.{length}
use Rattle.dispatch.proofs.map.nearest_free.Given as goal

abbrev pub decreases-loop-taxis : goal.decreases-loop-taxis
decreases-loop-taxis g l = length l.taxis.objects
