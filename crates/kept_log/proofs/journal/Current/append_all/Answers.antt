use Rattle.std.proofs.Common.{◌≡◌, List, Some, sym, ap, ◌∙◌, subst}
use Rattle.std.specs.Prelude.{map}
use Rattle.std.proofs.lemmas.Result.{on_ok_weaker, IfErr-weaker}
use Rattle.cell_format.specs.declared.cell.Cell.{Cell}
use Rattle.kept_log.specs.Moved.{alone, lessen_cell}
use Rattle.kept_log.specs.Journal.{AddedAll, NotAdded, LeavesNextAll}
use Rattle.kept_log.proofs.InJournal.{leaves-still}
use Rattle.kept_log.proofs.Waiting.{in-failed}
use Rattle.kept_log.proofs.MovedLogs.{all-added-moved, not-added-moved, leaves-all-moved, as-none, as-some}
use Rattle.kept_log.proofs.journal.Current.append_all.Goals as goal

pub returns-in_default-clause-any_moment : goal.returns-in_default-clause-any_moment
returns-in_default-clause-any_moment g c =
    as-none (λ old new. LeavesNextAll g.D.LogDisk.drive c.args.cells.now (Some old) (Some new)) c.self.inside.kept c.append_all.new.self c.args.self.now c.self.inside.before
    c.self.view_is c.in_default.is c.append_all.ensures.any_moment

pub returns-in-Ok-clause-ok : goal.returns-in-Ok-clause-ok
returns-in-Ok-clause-ok g c =
    let b = c.in-Some.before in
    let own = c.self.inside.kept in
    let added = c.append_all-in-Ok.new.self in
    let cells : c.as_slice.result.now ≡ map (lessen_cell b.skipped) c.args.cells.now =
    c.as_slice.ensures.value ∙ c.in-Ok.ensures ∙ ap (λ e. map (lessen_cell e.skipped) c.args.cells.now) c.before-2.view_is in
    on_ok_weaker c.append_all-in-Ok.result (λ is.
    as-some (λ old new. AddedAll g.D.LogDisk.drive c.args.cells.now (Some old) (Some new)) own added c.args.self.now c.self.inside.before b c.self.view_is c.in-Some.is
    (all-added-moved g.D.LogDisk.drive own added b c.append_all-in-Ok.ensures.since c.args.cells.now
    (subst (λ (l : List Cell). AddedAll g.D.LogDisk.drive l (Some (alone own)) (Some (alone added))) cells is))) c.append_all-in-Ok.ensures.ok

pub returns-in-Ok-clause-lost : goal.returns-in-Ok-clause-lost
returns-in-Ok-clause-lost g c =
    let b = c.in-Some.before in
    let own = c.self.inside.kept in
    let added = c.append_all-in-Ok.new.self in
    let cells : c.as_slice.result.now ≡ map (lessen_cell b.skipped) c.args.cells.now =
    c.as_slice.ensures.value ∙ c.in-Ok.ensures ∙ ap (λ e. map (lessen_cell e.skipped) c.args.cells.now) c.before-2.view_is in
    IfErr-weaker c.append_all-in-Ok.result _ _ (λ e missed.
    as-some (λ old new. NotAdded g.D.LogDisk.drive c.args.cells.now e (Some old) (Some new)) own added c.args.self.now c.self.inside.before b c.self.view_is c.in-Some.is
    (not-added-moved g.D.LogDisk.drive own added b c.append_all-in-Ok.ensures.since c.args.cells.now e
    (subst (λ (l : List Cell). NotAdded g.D.LogDisk.drive l e (Some (alone own)) (Some (alone added))) cells missed))) c.append_all-in-Ok.ensures.lost

pub returns-in-Ok-clause-any_moment : goal.returns-in-Ok-clause-any_moment
returns-in-Ok-clause-any_moment g c =
    let b = c.in-Some.before in
    let own = c.self.inside.kept in
    let added = c.append_all-in-Ok.new.self in
    let cells : c.as_slice.result.now ≡ map (lessen_cell b.skipped) c.args.cells.now =
    c.as_slice.ensures.value ∙ c.in-Ok.ensures ∙ ap (λ e. map (lessen_cell e.skipped) c.args.cells.now) c.before-2.view_is in
    as-some (λ old new. LeavesNextAll g.D.LogDisk.drive c.args.cells.now (Some old) (Some new)) own added c.args.self.now c.self.inside.before b c.self.view_is c.in-Some.is
    (leaves-all-moved g.D.LogDisk.drive own added b c.append_all-in-Ok.ensures.since c.args.cells.now
    (subst (λ (l : List Cell). LeavesNextAll g.D.LogDisk.drive l (Some (alone own)) (Some (alone added))) cells c.append_all-in-Ok.ensures.any_moment))

pub returns-in-Err-clause-any_moment : goal.returns-in-Err-clause-any_moment
returns-in-Err-clause-any_moment g c w s h es next kept =
    leaves-still g.D.LogDisk.drive w s h es (Some c.args.self.now) g.met.D.LogDisk.keeps_laws kept (sym (in-failed g.D.LogDisk.drive w s h (Some c.args.self.now) kept) ∙ c.requires.open)
