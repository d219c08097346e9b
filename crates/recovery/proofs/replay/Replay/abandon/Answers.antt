use Rattle.recovery.proofs.Replays.{IsReplay-filter}
use Rattle.recovery.proofs.replay.Replay.abandon.Goals as goal

pub invariant_of-self : goal.invariant_of-self
invariant_of-self c = rw c.remove.ensures (IsReplay-filter _ _ _ _ _ c.self.inside.splits c.self.invariant)
