use Rattle.std.proofs.Common.{Option, Some, sym, ◌∙◌, subst}
use Rattle.std.proofs.lemmas.Result.{on_ok_weaker, IfErr-weaker}
use Rattle.kept_log.specs.KeptView.{KeptView}
use Rattle.kept_log.specs.Journal.{AddedAll, NotAdded, LeavesNextAll}
use Rattle.kept_log.proofs.InJournal.{all-added-none}
use Rattle.kept_log.proofs.journal.Journal.append_all.Goals as goal

pub returns-in_default-clause-ok : goal.returns-in_default-clause-ok
returns-in_default-clause-ok g c =
    rw (← c.self.view_is) (subst (λ (l : Option (KeptView g.row.D.Denot)). AddedAll g.D.LogDisk.drive c.args.cells.now l l) (sym c.in_default.is)
    (all-added-none g.D.LogDisk.drive c.args.cells.now))

pub returns-in_default-clause-any_moment : goal.returns-in_default-clause-any_moment
returns-in_default-clause-any_moment g c = rw (← c.self.view_is) (rw c.in_default.is (λ w s h es next kept. tt))

pub returns-clause-ok : goal.returns-clause-ok
returns-clause-ok g c =
    on_ok_weaker c.append_all.result
    (subst (λ (l : Option (KeptView g.row.D.Denot)). AddedAll g.D.LogDisk.drive c.args.cells.now l (Some c.append_all.new.self)) (sym (sym c.self.view_is ∙ c.in-Some.is)))
    c.append_all.ensures.ok

pub returns-clause-lost : goal.returns-clause-lost
returns-clause-lost g c =
    IfErr-weaker c.append_all.result _ _
    (λ e. subst (λ (l : Option (KeptView g.row.D.Denot)). NotAdded g.D.LogDisk.drive c.args.cells.now e l (Some c.append_all.new.self)) (sym (sym c.self.view_is ∙ c.in-Some.is)))
    c.append_all.ensures.lost

pub returns-clause-any_moment : goal.returns-clause-any_moment
returns-clause-any_moment g c =
    subst (λ (l : Option (KeptView g.row.D.Denot)). LeavesNextAll g.D.LogDisk.drive c.args.cells.now l (Some c.append_all.new.self)) (sym (sym c.self.view_is ∙ c.in-Some.is))
    c.append_all.ensures.any_moment
