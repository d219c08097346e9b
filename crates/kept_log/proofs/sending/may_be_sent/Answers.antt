use denote.Param.Send.{sendable}
use Rattle.kept_log.proofs.Sent.{journal_send}
use Rattle.kept_log.proofs.sending.may_be_sent.Goals as goal

pub sent-requires-send-T : goal.sent-requires-send-T
sent-requires-send-T g c κs within = search (sendable, journal_send)
