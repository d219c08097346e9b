use Rattle.sessions.specs.Shared.{IsShared}
use Rattle.commit_book.specs.BookView.{BookView}
use Rattle.std.proofs.Common.{subst, sym, ◌∙◌}
use Rattle.std.specs.Prelude.{OnOk, IfErr}
use Rattle.plain_list.specs.declared.entries.Lost.TheVariants as lost
use Rattle.commit_book.specs.SplitSteps.{Abandons}
use Rattle.commit_book.specs.IsBook.{AreBooks}
use Rattle.commit_book.specs.Refusals.{IsRefusedBy, IsDisk, LeavesRefused, abandon_refusal}
use Rattle.sessions.proofs.WorldSteps.{shared_still, spare_still, abandon_world}
use Rattle.sessions.proofs.shared.SharedBook.abandon.Goals as goal

pub invariant_of-self : goal.invariant_of-self
invariant_of-self g c =
    let m = c.deref_mut.result.now in
    let held : IsShared g.D.LogDisk.drive g.O.Start.unlogged g.O.Start.is m =
    subst (λ (b : BookView g.row.D.Denot). IsShared g.D.LogDisk.drive g.O.Start.unlogged g.O.Start.is b) (sym c.deref_mut.ensures.value) c.self.invariant.0 in (
      shared_still g.D.LogDisk.drive g.O.Start.unlogged g.O.Start.is m c.abandon.new.self c.abandon.ensures.book.origin held.start
          (abandon_world c.args.number g.D.LogDisk.drive m c.abandon.new.self c.abandon.result c.abandon.ensures.ok c.abandon.ensures.err c.abandon.ensures.book.origin.opening held.has),
      spare_still _ m c.abandon.new.self c.deref_mut.ensures.value c.abandon.ensures.book.origin c.self.invariant.1,
    )

pub returns-clause-ok : goal.returns-clause-ok
returns-clause-ok g c = subst (λ (b : BookView g.row.D.Denot). OnOk c.abandon.result (Abandons b c.abandon.new.self c.args.number)) (c.deref_mut.ensures.value ∙ c.self.view_is) c.abandon.ensures.ok

pub returns-clause-refused : goal.returns-clause-refused
returns-clause-refused g c = subst (λ (b : BookView g.row.D.Denot). IsRefusedBy IsDisk (abandon_refusal g.I.Index.WIDTH b c.args.number) c.abandon.result) (c.deref_mut.ensures.value ∙ c.self.view_is) c.abandon.ensures.refused

pub returns-clause-err : goal.returns-clause-err
returns-clause-err g c = subst (λ (b : BookView g.row.D.Denot). IfErr c.abandon.result (LeavesRefused g.D.LogDisk.drive (lost.Abandon c.args.number) b c.abandon.new.self)) (c.deref_mut.ensures.value ∙ c.self.view_is) c.abandon.ensures.err

pub returns-clause-book : goal.returns-clause-book
returns-clause-book g c = subst (λ (b : BookView g.row.D.Denot). AreBooks g.D.LogDisk.drive g.I.Index.WIDTH b c.abandon.new.self) (c.deref_mut.ensures.value ∙ c.self.view_is) c.abandon.ensures.book
