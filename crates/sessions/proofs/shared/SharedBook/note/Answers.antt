use Rattle.std.proofs.Common.{ℕ, subst, sym, ◌∙◌}
use Rattle.std.specs.Prelude.{◌≡◌, IfOk, IfErr}
use Rattle.commit_book.specs.BookView.{BookView}
use Rattle.commit_book.specs.Answers.{Notes}
use Rattle.commit_book.specs.IsBook.{AreBooks}
use Rattle.commit_book.specs.Refusals.{IsRefusedBy, IsMemory, call_refusal}
use Rattle.sessions.specs.Shared.{IsShared}
use Rattle.sessions.proofs.WorldSteps.{shared_still, spare_still, note_world}
use Rattle.sessions.proofs.shared.SharedBook.note.Goals as goal

pub invariant_of-self : goal.invariant_of-self
invariant_of-self g c =
    let m = c.deref_mut.result.now in
    let held : IsShared g.D.LogDisk.drive g.O.Start.unlogged g.O.Start.is m =
    subst (λ (b : BookView g.row.D.Denot). IsShared g.D.LogDisk.drive g.O.Start.unlogged g.O.Start.is b) (sym c.deref_mut.ensures.value) c.self.invariant.0 in (
      shared_still g.D.LogDisk.drive g.O.Start.unlogged g.O.Start.is m c.note.new.self c.note.ensures.book.origin held.start
          (note_world m c.note.new.self c.args.session c.args.row c.args.op.now c.note.result c.note.ensures.ok c.note.ensures.err c.note.ensures.book.origin.opening c.told.ensures held.has),
      spare_still _ m c.note.new.self c.deref_mut.ensures.value c.note.ensures.book.origin c.self.invariant.1,
    )

pub returns-clause-ok : goal.returns-clause-ok
returns-clause-ok g c = subst (λ (b : BookView g.row.D.Denot). IfOk c.note.result (λ (place : ℕ). Notes b c.note.new.self c.args.session c.args.row c.args.op.now place)) (c.deref_mut.ensures.value ∙ c.self.view_is) c.note.ensures.ok

pub returns-clause-refused : goal.returns-clause-refused
returns-clause-refused g c = subst (λ (b : BookView g.row.D.Denot). IsRefusedBy IsMemory (call_refusal b.kept b.entries) c.note.result) (c.deref_mut.ensures.value ∙ c.self.view_is) c.note.ensures.refused

pub returns-clause-err : goal.returns-clause-err
returns-clause-err g c = subst (λ (b : BookView g.row.D.Denot). IfErr c.note.result (λ _. c.note.new.self ≡ b)) (c.deref_mut.ensures.value ∙ c.self.view_is) c.note.ensures.err

pub returns-clause-book : goal.returns-clause-book
returns-clause-book g c = subst (λ (b : BookView g.row.D.Denot). AreBooks g.D.LogDisk.drive g.I.Index.WIDTH b c.note.new.self) (c.deref_mut.ensures.value ∙ c.self.view_is) c.note.ensures.book
