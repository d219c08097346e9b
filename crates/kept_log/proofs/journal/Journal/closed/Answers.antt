use Rattle.std.proofs.Common.{sym, ap, ◌∙◌}
use Rattle.kept_log.specs.Journal.{failed_in}
use Rattle.kept_log.proofs.MovedLogs.{seen-failed}
use Rattle.kept_log.proofs.journal.Journal.closed.Goals as goal

pub returns-in-Some : goal.returns-in-Some
returns-in-Some g c =
    c.failed.ensures ∙ sym (seen-failed c.current.inside.kept c.current.inside.before) ∙ ap (λ v. v.failed) c.current.view_is ∙ sym (ap failed_in (sym c.self.view_is ∙ c.in-Some.is))
