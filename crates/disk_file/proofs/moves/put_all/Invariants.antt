use Rattle.std.proofs.Common.{length, ◌-◌}
use Rattle.disk_file.proofs.Progress.{HasPut}
use Rattle.disk_file.proofs.moves.put_all.Given as goal

abbrev pub invariant-loop-at : goal.invariant-loop-at
invariant-loop-at g l = HasPut (g.F.Write.contents l.fn.file) (g.F.Write.contents l.file) l.piece l.at

abbrev pub decreases-loop-at : goal.decreases-loop-at
decreases-loop-at g l = length l.piece - l.at
