use Rattle.std.proofs.Common.{Option, Some, sym, ◌∙◌, subst}
use Rattle.kept_log.specs.KeptView.{KeptView}
use Rattle.kept_log.specs.Journal.{LeavesSynced}
use Rattle.kept_log.proofs.journal.Journal.sync.Goals as goal

pub returns-clause-any_moment : goal.returns-clause-any_moment
returns-clause-any_moment g c =
    subst (λ (l : Option (KeptView g.row.D.Denot)). LeavesSynced g.D.LogDisk.drive l (Some c.sync.new.self)) (sym (sym c.self.view_is ∙ c.in-Some.is))
    c.sync.ensures.any_moment
