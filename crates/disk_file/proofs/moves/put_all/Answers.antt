use Rattle.std.proofs.Common.{arith, refl}
use Rattle.std.proofs.lemmas.Grind.{common_steps}
use Rattle.disk_file.proofs.Progress.{HasPut-more}
use Rattle.disk_file.proofs.moves.put_all.Goals as goal

pub loop-at-preserved : goal.loop-at-preserved
loop-at-preserved g c = HasPut-more c.in-Ok.n _ c.loop-at.invariant refl c.in-Ok.ensures.bound c.in-Ok.ensures.bytes

pub returns : goal.returns
returns g c = grind (arith, common_steps)
