use Rattle.std.proofs.Common.{Option, Some, sym, ◌∙◌, subst}
use Rattle.std.proofs.lemmas.Result.{on_ok_weaker, IfErr-weaker}
use Rattle.kept_log.specs.KeptView.{KeptView}
use Rattle.kept_log.specs.Journal.{Added, Missed, LeavesNext}
use Rattle.kept_log.proofs.InJournal.{added-none}
use Rattle.kept_log.proofs.journal.Journal.append.Goals as goal

pub returns-in_default-clause-ok : goal.returns-in_default-clause-ok
returns-in_default-clause-ok g c =
    rw (← c.self.view_is) (subst (λ (l : Option (KeptView g.row.D.Denot)). Added g.D.LogDisk.drive c.args.cell.now l l) (sym c.in_default.is)
    (added-none g.D.LogDisk.drive c.args.cell.now))

pub returns-in_default-clause-any_moment : goal.returns-in_default-clause-any_moment
returns-in_default-clause-any_moment g c = rw (← c.self.view_is) (rw c.in_default.is (λ w s h e next kept. tt))

pub returns-clause-ok : goal.returns-clause-ok
returns-clause-ok g c =
    on_ok_weaker c.append.result
    (subst (λ (l : Option (KeptView g.row.D.Denot)). Added g.D.LogDisk.drive c.args.cell.now l (Some c.append.new.self)) (sym (sym c.self.view_is ∙ c.in-Some.is)))
    c.append.ensures.ok

pub returns-clause-lost : goal.returns-clause-lost
returns-clause-lost g c =
    IfErr-weaker c.append.result _ _
    (λ e. subst (λ (l : Option (KeptView g.row.D.Denot)). Missed g.D.LogDisk.drive c.args.cell.now e.cell l (Some c.append.new.self)) (sym (sym c.self.view_is ∙ c.in-Some.is)))
    c.append.ensures.lost

pub returns-clause-any_moment : goal.returns-clause-any_moment
returns-clause-any_moment g c =
    subst (λ (l : Option (KeptView g.row.D.Denot)). LeavesNext g.D.LogDisk.drive c.args.cell.now l (Some c.append.new.self)) (sym (sym c.self.view_is ∙ c.in-Some.is))
    c.append.ensures.any_moment
