use Rattle.disk_mem.proofs.FileLemmas.{replay_more}
use Rattle.disk_mem.proofs.touches.replayed.Goals as goal

pub loop-touch-preserved : goal.loop-touch-preserved
loop-touch-preserved c = replay_more _ c.args.pieces.now c.args.touches.now c.loop-touch.touch-index _ _ _ c.loop-touch-test.true c.loop-touch.invariant c.in_ok-redo.ensures
