use Rattle.std.proofs.Common.{length}
use Rattle.fence_watch.proofs.guards.+make_room.Given as goal

abbrev pub decreases-make_room : goal.decreases-make_room
decreases-make_room l = length l.guards.now
