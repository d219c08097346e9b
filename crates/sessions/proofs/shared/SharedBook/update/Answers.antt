use Rattle.sessions.specs.Shared.{IsShared}
use Rattle.commit_book.specs.BookView.{BookView}
use Rattle.std.proofs.Common.{subst, sym, ◌∙◌}
use Rattle.std.specs.Prelude.{IfOk, IfErr}
use Rattle.plain_list.specs.declared.entries.Lost.TheVariants as lost
use Rattle.commit_book.specs.declared.book.Done.{Done}
use Rattle.commit_book.specs.Answers.{Replies}
use Rattle.commit_book.specs.IsBook.{AreBooks}
use Rattle.commit_book.specs.Refusals.{IsRefusedBy, IsMemoryOrDisk, LeavesRefused, update_refusal}
use Rattle.sessions.proofs.WorldSteps.{shared_still, spare_still, update_world}
use Rattle.sessions.proofs.shared.SharedBook.update.Goals as goal

pub invariant_of-self : goal.invariant_of-self
invariant_of-self g c =
    let m = c.deref_mut.result.now in
    let held : IsShared g.D.LogDisk.drive g.O.Start.unlogged g.O.Start.is m =
    subst (λ (b : BookView g.row.D.Denot). IsShared g.D.LogDisk.drive g.O.Start.unlogged g.O.Start.is b) (sym c.deref_mut.ensures.value) c.self.invariant.0 in (
      shared_still g.D.LogDisk.drive g.O.Start.unlogged g.O.Start.is m c.update.new.self c.update.ensures.book.origin held.start
          (update_world g.I.Index.WIDTH g.D.LogDisk.drive m c.update.new.self c.args.session c.args.row c.args.op.now c.update.result c.update.ensures.ok c.update.ensures.err c.update.ensures.book.origin.opening c.told.ensures held.has),
      spare_still _ m c.update.new.self c.deref_mut.ensures.value c.update.ensures.book.origin c.self.invariant.1,
    )

pub returns-clause-ok : goal.returns-clause-ok
returns-clause-ok g c = subst (λ (b : BookView g.row.D.Denot). IfOk c.update.result (λ (d : Done). Replies g.I.Index.WIDTH b c.update.new.self c.args.session c.args.row c.args.op.now d.place d.answer d.full)) (c.deref_mut.ensures.value ∙ c.self.view_is) c.update.ensures.ok

pub returns-clause-refused : goal.returns-clause-refused
returns-clause-refused g c = subst (λ (b : BookView g.row.D.Denot). IsRefusedBy IsMemoryOrDisk (update_refusal b c.args.op.now) c.update.result) (c.deref_mut.ensures.value ∙ c.self.view_is) c.update.ensures.refused

pub returns-clause-err : goal.returns-clause-err
returns-clause-err g c = subst (λ (b : BookView g.row.D.Denot). IfErr c.update.result (LeavesRefused g.D.LogDisk.drive (lost.Call c.args.session c.args.row c.args.op.now) b c.update.new.self)) (c.deref_mut.ensures.value ∙ c.self.view_is) c.update.ensures.err

pub returns-clause-book : goal.returns-clause-book
returns-clause-book g c = subst (λ (b : BookView g.row.D.Denot). AreBooks g.D.LogDisk.drive g.I.Index.WIDTH b c.update.new.self) (c.deref_mut.ensures.value ∙ c.self.view_is) c.update.ensures.book
