use Rattle.std.proofs.Common.{◌≡◌, Some, ap, ◌∙◌, subst}
use Rattle.std.proofs.lemmas.Result.{on_ok_weaker, IfErr-weaker}
use Rattle.cell_format.specs.declared.cell.Cell.{Cell}
use Rattle.kept_log.specs.Moved.{alone, lessen_cell}
use Rattle.kept_log.specs.Journal.{Added, Missed, LeavesNext}
use Rattle.kept_log.proofs.MovedLogs.{added-moved, missed-moved, leaves-moved, as-none, as-some}
use Rattle.kept_log.proofs.journal.Current.append.Goals as goal

pub returns-in-None-clause-any_moment : goal.returns-in-None-clause-any_moment
returns-in-None-clause-any_moment g c =
    as-none (λ old new. LeavesNext g.D.LogDisk.drive c.args.cell.now (Some old) (Some new)) c.self.inside.kept c.append.new.self c.args.self.now c.self.inside.before
    c.self.view_is c.in-None.is c.append.ensures.any_moment

pub returns-in-Some-clause-ok : goal.returns-in-Some-clause-ok
returns-in-Some-clause-ok g c =
    let b = c.in-Some.before in
    let own = c.self.inside.kept in
    let added = c.append-in-Some.new.self in
    let cell : c.lessened.result ≡ lessen_cell b.skipped c.args.cell.now = c.lessened.ensures ∙ ap (λ e. lessen_cell e.skipped c.args.cell.now) c.before-in-Some.view_is in
    on_ok_weaker c.append-in-Some.result (λ is.
    as-some (λ old new. Added g.D.LogDisk.drive c.args.cell.now (Some old) (Some new)) own added c.args.self.now c.self.inside.before b c.self.view_is c.in-Some.is
    (added-moved g.D.LogDisk.drive own added b c.append-in-Some.ensures.since c.args.cell.now
    (subst (λ (x : Cell). Added g.D.LogDisk.drive x (Some (alone own)) (Some (alone added))) cell is))) c.append-in-Some.ensures.ok

pub returns-in-Some-clause-lost : goal.returns-in-Some-clause-lost
returns-in-Some-clause-lost g c =
    let b = c.in-Some.before in
    let own = c.self.inside.kept in
    let added = c.append-in-Some.new.self in
    let cell : c.lessened.result ≡ lessen_cell b.skipped c.args.cell.now = c.lessened.ensures ∙ ap (λ e. lessen_cell e.skipped c.args.cell.now) c.before-in-Some.view_is in
    IfErr-weaker c.append-in-Some.result _ _ (λ e missed.
    as-some (λ old new. Missed g.D.LogDisk.drive c.args.cell.now e.cell (Some old) (Some new)) own added c.args.self.now c.self.inside.before b c.self.view_is c.in-Some.is
    (missed-moved g.D.LogDisk.drive own added b c.append-in-Some.ensures.since c.args.cell.now e.cell
    (subst (λ (x : Cell). Missed g.D.LogDisk.drive x e.cell (Some (alone own)) (Some (alone added))) cell missed))) c.append-in-Some.ensures.lost

pub returns-in-Some-clause-any_moment : goal.returns-in-Some-clause-any_moment
returns-in-Some-clause-any_moment g c =
    let b = c.in-Some.before in
    let own = c.self.inside.kept in
    let added = c.append-in-Some.new.self in
    let cell : c.lessened.result ≡ lessen_cell b.skipped c.args.cell.now = c.lessened.ensures ∙ ap (λ e. lessen_cell e.skipped c.args.cell.now) c.before-in-Some.view_is in
    as-some (λ old new. LeavesNext g.D.LogDisk.drive c.args.cell.now (Some old) (Some new)) own added c.args.self.now c.self.inside.before b c.self.view_is c.in-Some.is
    (leaves-moved g.D.LogDisk.drive own added b c.append-in-Some.ensures.since c.args.cell.now
    (subst (λ (x : Cell). LeavesNext g.D.LogDisk.drive x (Some (alone own)) (Some (alone added))) cell c.append-in-Some.ensures.any_moment))
