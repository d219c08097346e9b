-- A journal may be sent between threads where its drive may.
use denote.RattleType.{RattleType}
use denote.Param.Send.{IsSend, sendable}
use Rattle.std.proofs.Crossing.{crosses}
use Rattle.disk_trait.specs.declared.disk.LogDisk.{Ghosts as DriveGhosts}
use Rattle.split_log.proofs.log.SplitLog.TheSendSync as log
use Rattle.split_log.proofs.waiting.Waiting.TheSendSync as waiting
use Rattle.kept_log.specs.contracts.journal.Journal as Journal
use Rattle.kept_log.specs.contracts.journal.Kept as Kept
use Rattle.kept_log.specs.contracts.journal.Before as Before
use Rattle.kept_log.specs.contracts.journal.Current as Current
use Rattle.kept_log.proofs.past.Past.TheSendSync as past

kept_send : (D : RattleType) (h : DriveGhosts D.Denot) → IsSend D → IsSend (Kept.the_row D h)
kept_send D h d = search (sendable, crosses, log.the_send, waiting.the_send) depth 20

before_send : (D : RattleType) (h : DriveGhosts D.Denot) → IsSend D → IsSend (Before.the_row D h)
before_send D h d = search (sendable, crosses, past.the_send) depth 20

current_send : (D : RattleType) (h : DriveGhosts D.Denot) → IsSend D → IsSend (Current.the_row D h)
current_send D h d = search (sendable, crosses, kept_send, before_send) depth 20

pub journal_send : (D : RattleType) (h : DriveGhosts D.Denot) → IsSend D → IsSend (Journal.the_row D h)
journal_send D h d = search (sendable, crosses, current_send) depth 20
