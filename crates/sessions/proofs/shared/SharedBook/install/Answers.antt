use Rattle.sessions.specs.Shared.{IsShared}
use Rattle.commit_book.specs.BookView.{BookView}
use Rattle.std.proofs.Common.{subst, sym, ◌∙◌}
use Rattle.std.specs.Prelude.{OnOk, IfErr}
use Rattle.plain_list.specs.declared.entries.Lost.TheVariants as lost
use Rattle.commit_book.specs.SplitSteps.{Installs}
use Rattle.commit_book.specs.IsBook.{AreBooks}
use Rattle.commit_book.specs.Refusals.{IsRefusedBy, IsMemoryOrDisk, LeavesRefused, install_refusal}
use Rattle.sessions.proofs.WorldSteps.{shared_still, spare_still, install_world}
use Rattle.sessions.proofs.shared.SharedBook.install.Goals as goal

pub invariant_of-self : goal.invariant_of-self
invariant_of-self g c =
    let m = c.deref_mut.result.now in
    let held : IsShared g.D.LogDisk.drive g.O.Start.unlogged g.O.Start.is m =
    subst (λ (b : BookView g.row.D.Denot). IsShared g.D.LogDisk.drive g.O.Start.unlogged g.O.Start.is b) (sym c.deref_mut.ensures.value) c.self.invariant.0 in
    let p = c.args.prepared.now in (
      shared_still g.D.LogDisk.drive g.O.Start.unlogged g.O.Start.is m c.install.new.self c.install.ensures.book.origin held.start
          (install_world g.I.Index.WIDTH p.number g.D.LogDisk.drive m c.install.new.self p.name c.install.result c.install.ensures.ok c.install.ensures.err c.install.ensures.book.origin.opening held.has),
      spare_still _ m c.install.new.self c.deref_mut.ensures.value c.install.ensures.book.origin c.self.invariant.1,
    )

pub returns-clause-ok : goal.returns-clause-ok
returns-clause-ok g c = subst (λ (b : BookView g.row.D.Denot). OnOk c.install.result (Installs g.I.Index.WIDTH b c.install.new.self c.args.prepared.now.number c.args.prepared.now.name)) (c.deref_mut.ensures.value ∙ c.self.view_is) c.install.ensures.ok

pub returns-clause-refused : goal.returns-clause-refused
returns-clause-refused g c = subst (λ (b : BookView g.row.D.Denot). IsRefusedBy IsMemoryOrDisk (install_refusal g.I.Index.WIDTH b c.args.prepared.now.number c.args.prepared.now.name c.args.prepared.now.base) c.install.result) (c.deref_mut.ensures.value ∙ c.self.view_is) c.install.ensures.refused

pub returns-clause-err : goal.returns-clause-err
returns-clause-err g c = subst (λ (b : BookView g.row.D.Denot). IfErr c.install.result (LeavesRefused g.D.LogDisk.drive (lost.Install c.args.prepared.now.number) b c.install.new.self)) (c.deref_mut.ensures.value ∙ c.self.view_is) c.install.ensures.err

pub returns-clause-book : goal.returns-clause-book
returns-clause-book g c = subst (λ (b : BookView g.row.D.Denot). AreBooks g.D.LogDisk.drive g.I.Index.WIDTH b c.install.new.self) (c.deref_mut.ensures.value ∙ c.self.view_is) c.install.ensures.book
