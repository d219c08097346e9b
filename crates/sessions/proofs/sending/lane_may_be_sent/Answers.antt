use Rattle.sessions.proofs.Sent.{crossing}
use Rattle.sessions.proofs.sending.lane_may_be_sent.Goals as goal

pub sent-requires-send-T : goal.sent-requires-send-T
sent-requires-send-T g c κs within = search crossing depth 8
