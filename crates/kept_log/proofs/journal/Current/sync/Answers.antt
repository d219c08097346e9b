use Rattle.std.proofs.Common.{Some, subst}
use Rattle.std.proofs.lemmas.Result.{on_ok_weaker, IfErr-weaker}
use Rattle.kept_log.specs.KeptView.{KeptView}
use Rattle.kept_log.specs.Journal.{Synced, NotSynced, LeavesSynced}
use Rattle.kept_log.specs.Moved.{seen_as}
use Rattle.kept_log.proofs.MovedLogs.{synced-as, not-synced-as, leaves-synced-as}
use Rattle.kept_log.proofs.journal.Current.sync.Goals as goal

pub returns-clause-ok : goal.returns-clause-ok
returns-clause-ok g c =
    on_ok_weaker c.sync.result (λ is.
    subst (λ (l : KeptView g.row.D.Denot). Synced g.D.LogDisk.drive (Some l) (Some (seen_as c.sync.new.self c.self.inside.before))) c.self.view_is
    (synced-as g.D.LogDisk.drive c.self.inside.kept c.sync.new.self c.sync.ensures.since c.self.inside.before is)) c.sync.ensures.ok

pub returns-clause-lost : goal.returns-clause-lost
returns-clause-lost g c =
    IfErr-weaker c.sync.result _ _ (λ e is.
    subst (λ (l : KeptView g.row.D.Denot). NotSynced g.D.LogDisk.drive e.cell (Some l) (Some (seen_as c.sync.new.self c.self.inside.before))) c.self.view_is
    (not-synced-as g.D.LogDisk.drive c.self.inside.kept c.sync.new.self c.sync.ensures.since c.self.inside.before e.cell is)) c.sync.ensures.lost

pub returns-clause-any_moment : goal.returns-clause-any_moment
returns-clause-any_moment g c =
    subst (λ (l : KeptView g.row.D.Denot). LeavesSynced g.D.LogDisk.drive (Some l) (Some (seen_as c.sync.new.self c.self.inside.before))) c.self.view_is
    (leaves-synced-as g.D.LogDisk.drive c.self.inside.kept c.sync.new.self c.sync.ensures.since c.self.inside.before c.sync.ensures.any_moment)
