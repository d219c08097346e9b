use Rattle.recovery.proofs.replay.Replay.step.Goals as goal

pub returns-in-Begin-clause-steps : goal.returns-in-Begin-clause-steps
returns-in-Begin-clause-steps c = rw c.in-Begin.is c.begin.ensures.steps
