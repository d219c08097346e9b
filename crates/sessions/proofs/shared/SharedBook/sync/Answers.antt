use Rattle.sessions.specs.Shared.{IsShared}
use Rattle.commit_book.specs.BookView.{BookView}
use Rattle.std.proofs.Common.{subst, sym, ◌∙◌}
use Rattle.std.specs.Prelude.{IfOk, IfErr}
use Rattle.commit_book.specs.IsBook.{AreBooks}
use Rattle.commit_book.specs.Refusals.{IsRefusedBy, IsMemoryOrDisk, LeavesRefused, call_refusal}
use Rattle.commit_book.specs.Syncs.{Syncs, lost_sync}
use Rattle.sessions.proofs.WorldSteps.{shared_still, spare_still, sync_world}
use Rattle.sessions.proofs.shared.SharedBook.sync.Goals as goal

pub invariant_of-self : goal.invariant_of-self
invariant_of-self g c =
    let m = c.deref_mut.result.now in
    let held : IsShared g.D.LogDisk.drive g.O.Start.unlogged g.O.Start.is m =
    subst (λ (b : BookView g.row.D.Denot). IsShared g.D.LogDisk.drive g.O.Start.unlogged g.O.Start.is b) (sym c.deref_mut.ensures.value) c.self.invariant.0 in (
      shared_still g.D.LogDisk.drive g.O.Start.unlogged g.O.Start.is m c.sync.new.self c.sync.ensures.book.origin held.start
          (sync_world g.D.LogDisk.drive m c.sync.new.self c.sync.result c.sync.ensures.ok c.sync.ensures.err c.sync.ensures.book.origin.opening held.has),
      spare_still _ m c.sync.new.self c.deref_mut.ensures.value c.sync.ensures.book.origin c.self.invariant.1,
    )

pub returns-clause-ok : goal.returns-clause-ok
returns-clause-ok g c = subst (λ (b : BookView g.row.D.Denot). IfOk c.sync.result (Syncs b c.sync.new.self)) (c.deref_mut.ensures.value ∙ c.self.view_is) c.sync.ensures.ok

pub returns-clause-refused : goal.returns-clause-refused
returns-clause-refused g c = subst (λ (b : BookView g.row.D.Denot). IsRefusedBy IsMemoryOrDisk (call_refusal b.kept b.entries) c.sync.result) (c.deref_mut.ensures.value ∙ c.self.view_is) c.sync.ensures.refused

pub returns-clause-err : goal.returns-clause-err
returns-clause-err g c = subst (λ (b : BookView g.row.D.Denot). IfErr c.sync.result (LeavesRefused g.D.LogDisk.drive lost_sync b c.sync.new.self)) (c.deref_mut.ensures.value ∙ c.self.view_is) c.sync.ensures.err

pub returns-clause-book : goal.returns-clause-book
returns-clause-book g c = subst (λ (b : BookView g.row.D.Denot). AreBooks g.D.LogDisk.drive g.I.Index.WIDTH b c.sync.new.self) (c.deref_mut.ensures.value ∙ c.self.view_is) c.sync.ensures.book
