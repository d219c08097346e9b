use Rattle.std.proofs.Common.{subst, sym, ◌∙◌}
use Rattle.std.specs.Prelude.{IfOk, IfErr}
use Rattle.commit_book.specs.Batches.{RepliesAll, LeavesRefusedAll, batch_refusal}
use Rattle.commit_book.specs.BookView.{BookView}
use Rattle.commit_book.specs.IsBook.{AreBooks}
use Rattle.commit_book.specs.Refusals.{IsRefusedBy, IsMemoryOrDisk}
use Rattle.commit_book.specs.declared.book.batches.BatchDone.{BatchDone}
use Rattle.sessions.specs.Shared.{IsShared}
use Rattle.sessions.proofs.WorldSteps.{shared_still, spare_still, batch_world}
use Rattle.sessions.proofs.shared.SharedBook.update_all.Goals as goal

pub invariant_of-self : goal.invariant_of-self
invariant_of-self g c =
    let m = c.deref_mut.result.now in
    let held : IsShared g.D.LogDisk.drive g.O.Start.unlogged g.O.Start.is m =
    subst (λ (b : BookView g.row.D.Denot). IsShared g.D.LogDisk.drive g.O.Start.unlogged g.O.Start.is b) (sym c.deref_mut.ensures.value) c.self.invariant.0 in (
      shared_still g.D.LogDisk.drive g.O.Start.unlogged g.O.Start.is m c.update_all.new.self c.update_all.ensures.book.origin held.start
          (batch_world g.I.Index.WIDTH g.D.LogDisk.drive m c.update_all.new.self c.args.session c.args.row c.args.ops.now c.update_all.result c.update_all.ensures.ok c.update_all.ensures.err c.update_all.ensures.book.origin.opening c.told_all.ensures held.has),
      spare_still _ m c.update_all.new.self c.deref_mut.ensures.value c.update_all.ensures.book.origin c.self.invariant.1,
    )

pub returns-clause-ok : goal.returns-clause-ok
returns-clause-ok g c =
    subst (λ (b : BookView g.row.D.Denot). IfOk c.update_all.result (λ (d : BatchDone). RepliesAll g.I.Index.WIDTH b c.update_all.new.self c.args.session c.args.row c.args.ops.now d.place d.answers.items d.full)) (c.deref_mut.ensures.value ∙ c.self.view_is) c.update_all.ensures.ok

pub returns-clause-refused : goal.returns-clause-refused
returns-clause-refused g c = subst (λ (b : BookView g.row.D.Denot). IsRefusedBy IsMemoryOrDisk (batch_refusal b c.args.ops.now) c.update_all.result) (c.deref_mut.ensures.value ∙ c.self.view_is) c.update_all.ensures.refused

pub returns-clause-err : goal.returns-clause-err
returns-clause-err g c =
    subst (λ (b : BookView g.row.D.Denot). IfErr c.update_all.result (LeavesRefusedAll g.D.LogDisk.drive c.args.session c.args.row c.args.ops.now b c.update_all.new.self)) (c.deref_mut.ensures.value ∙ c.self.view_is) c.update_all.ensures.err

pub returns-clause-book : goal.returns-clause-book
returns-clause-book g c = subst (λ (b : BookView g.row.D.Denot). AreBooks g.D.LogDisk.drive g.I.Index.WIDTH b c.update_all.new.self) (c.deref_mut.ensures.value ∙ c.self.view_is) c.update_all.ensures.book
