use Rattle.disk_file.proofs.Progress.{HasFilled-more}
use Rattle.disk_file.proofs.moves.fill.Goals as goal

pub loop-at-preserved : goal.loop-at-preserved
loop-at-preserved g c = HasFilled-more c.loop-at.into c.read.new.buf c.loop-at.at c.in-Ok.n c.loop-at.invariant c.in-Ok.ensures.bound.0 c.in-Ok.ensures.bytes.0
