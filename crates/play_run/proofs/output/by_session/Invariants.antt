use Rattle.play_run.specs.inside.Answered.{HasLanes}
use Rattle.play_run.proofs.output.by_session.Given as goal

abbrev pub invariant-loop-i : goal.invariant-loop-i
invariant-loop-i l = HasLanes (λ kept. kept.now) l.ends l.i l.lanes
