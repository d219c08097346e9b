use Rattle.sessions.specs.Shared.{IsShared}
use Rattle.commit_book.specs.BookView.{BookView}
use Rattle.std.proofs.Common.{subst, sym, ◌∙◌}
use Rattle.std.specs.Prelude.{IfOk, IfErr, ◌+◌}
use Rattle.plain_list.specs.State.{state_after}
use Rattle.plain_list.specs.declared.entries.Lost.TheVariants as lost
use Rattle.split_prepare.specs.declared.ticket.SplitTicket.{SplitTicket}
use Rattle.commit_book.specs.SplitSteps.{Begins}
use Rattle.commit_book.specs.IsBook.{AreBooks}
use Rattle.commit_book.specs.Refusals.{IsRefusedBy, IsMemoryOrDisk, LeavesRefused, begin_refusal}
use Rattle.sessions.proofs.WorldSteps.{shared_still, spare_still, begin_world}
use Rattle.sessions.proofs.shared.SharedBook.begin.Goals as goal

pub invariant_of-self : goal.invariant_of-self
invariant_of-self g c =
    let m = c.deref_mut.result.now in
    let held : IsShared g.D.LogDisk.drive g.O.Start.unlogged g.O.Start.is m =
    subst (λ (b : BookView g.row.D.Denot). IsShared g.D.LogDisk.drive g.O.Start.unlogged g.O.Start.is b) (sym c.deref_mut.ensures.value) c.self.invariant.0 in (
      shared_still g.D.LogDisk.drive g.O.Start.unlogged g.O.Start.is m c.begin.new.self c.begin.ensures.book.origin held.start
          (begin_world g.I.Index.WIDTH _ g.D.LogDisk.drive m c.begin.new.self c.args.name.now c.begin.result c.begin.ensures.ok c.begin.ensures.err c.begin.ensures.book.origin.opening held.has),
      spare_still _ m c.begin.new.self c.deref_mut.ensures.value c.begin.ensures.book.origin c.self.invariant.1,
    )

pub returns-clause-ok : goal.returns-clause-ok
returns-clause-ok g c = subst (λ (b : BookView g.row.D.Denot). IfOk c.begin.result (λ (t : SplitTicket). Begins g.I.Index.WIDTH b c.begin.new.self c.args.name.now t)) (c.deref_mut.ensures.value ∙ c.self.view_is) c.begin.ensures.ok

pub returns-clause-refused : goal.returns-clause-refused
returns-clause-refused g c = subst (λ (b : BookView g.row.D.Denot). IsRefusedBy IsMemoryOrDisk (begin_refusal g.I.Index.WIDTH b c.args.name.now) c.begin.result) (c.deref_mut.ensures.value ∙ c.self.view_is) c.begin.ensures.refused

pub returns-clause-err : goal.returns-clause-err
returns-clause-err g c = subst (λ (b : BookView g.row.D.Denot). IfErr c.begin.result (LeavesRefused g.D.LogDisk.drive (lost.Begin ((state_after g.I.Index.WIDTH b.opening b.entries).begun + 1) c.args.name.now) b c.begin.new.self)) (c.deref_mut.ensures.value ∙ c.self.view_is) c.begin.ensures.err

pub returns-clause-book : goal.returns-clause-book
returns-clause-book g c = subst (λ (b : BookView g.row.D.Denot). AreBooks g.D.LogDisk.drive g.I.Index.WIDTH b c.begin.new.self) (c.deref_mut.ensures.value ∙ c.self.view_is) c.begin.ensures.book

pub returns-clause-ticket : goal.returns-clause-ticket
returns-clause-ticket g c = c.begin.ensures.ticket
