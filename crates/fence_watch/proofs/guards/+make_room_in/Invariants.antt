use Rattle.std.proofs.Common.{length}
use Rattle.fence_watch.proofs.guards.+make_room_in.Given as goal

abbrev pub decreases-make_room_in : goal.decreases-make_room_in
decreases-make_room_in l = length l.guards.now
