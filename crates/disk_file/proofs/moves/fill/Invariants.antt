use Rattle.std.proofs.Common.{length, ◌-◌}
use Rattle.disk_file.proofs.Progress.{HasFilled}
use Rattle.disk_file.proofs.moves.fill.Given as goal

abbrev pub invariant-loop-at : goal.invariant-loop-at
invariant-loop-at g l = HasFilled (g.F.Read.remaining l.fn.file) (g.F.Read.remaining l.file) l.into l.at

abbrev pub decreases-loop-at : goal.decreases-loop-at
decreases-loop-at g l = length l.initial.into - l.at
