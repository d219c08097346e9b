use Rattle.sessions.specs.Shared.{IsShared}
use Rattle.std.proofs.Common.{subst, sym, ◌∙◌}
use Rattle.std.specs.Prelude.{◌≡◌, IfOk, IfErr}
use Rattle.plain_list.specs.World.{places_of}
use Rattle.plain_list.specs.History.{world_after}
use Rattle.plain_list.specs.State.{state_after}
use Rattle.index_layer.specs.Stands.{Stands}
use Rattle.commit_book.specs.BookView.{BookView}
use Rattle.commit_book.specs.declared.book.Snapshot.{Snapshot}
use Rattle.commit_book.specs.Answers.{Notes}
use Rattle.commit_book.specs.IsBook.{AreBooks}
use Rattle.commit_book.specs.Refusals.{IsRefusedBy, IsMemory, call_refusal}
use Rattle.sessions.proofs.WorldSteps.{shared_still, spare_still, snapshot_world, snapshot_stands}
use Rattle.sessions.proofs.shared.SharedBook.snapshot.Goals as goal

pub invariant_of-self : goal.invariant_of-self
invariant_of-self g c =
    let m = c.deref_mut.result.now in
    let held : IsShared g.D.LogDisk.drive g.O.Start.unlogged g.O.Start.is m =
    subst (λ (b : BookView g.row.D.Denot). IsShared g.D.LogDisk.drive g.O.Start.unlogged g.O.Start.is b) (sym c.deref_mut.ensures.value) c.self.invariant.0 in (
      shared_still g.D.LogDisk.drive g.O.Start.unlogged g.O.Start.is m c.snapshot.new.self c.snapshot.ensures.book.origin held.start
          (snapshot_world m c.snapshot.new.self c.args.session c.args.row c.args.op.now c.snapshot.result c.snapshot.ensures.ok c.snapshot.ensures.err c.snapshot.ensures.book.origin.opening c.told.ensures held.has),
      spare_still _ m c.snapshot.new.self c.deref_mut.ensures.value c.snapshot.ensures.book.origin c.self.invariant.1,
    )

pub returns-clause-index : goal.returns-clause-index
returns-clause-index g c =
    let new = c.snapshot.new.self in
    let names = (state_after g.I.Index.WIDTH new.opening new.entries).leaves in
    subst (λ (b : BookView g.row.D.Denot). IfOk c.snapshot.result (λ (s : Snapshot g.row.I.Denot g.row.I-Place.Denot). Stands (g.I.Index.leaves s.index) (places_of (world_after b.opening.world b.entries)) names)) (c.deref_mut.ensures.value ∙ c.self.view_is)
    (snapshot_stands g.I.Index.leaves names c.deref_mut.result.now new c.args.session c.args.row c.args.op.now c.snapshot.result c.requires c.snapshot.ensures.book.origin.opening c.snapshot.ensures.ok c.snapshot.ensures.index)

pub returns-clause-ok : goal.returns-clause-ok
returns-clause-ok g c = subst (λ (b : BookView g.row.D.Denot). IfOk c.snapshot.result (λ (s : Snapshot g.row.I.Denot g.row.I-Place.Denot). Notes b c.snapshot.new.self c.args.session c.args.row c.args.op.now s.place)) (c.deref_mut.ensures.value ∙ c.self.view_is) c.snapshot.ensures.ok

pub returns-clause-refused : goal.returns-clause-refused
returns-clause-refused g c = subst (λ (b : BookView g.row.D.Denot). IsRefusedBy IsMemory (call_refusal b.kept b.entries) c.snapshot.result) (c.deref_mut.ensures.value ∙ c.self.view_is) c.snapshot.ensures.refused

pub returns-clause-err : goal.returns-clause-err
returns-clause-err g c = subst (λ (b : BookView g.row.D.Denot). IfErr c.snapshot.result (λ _. c.snapshot.new.self ≡ b)) (c.deref_mut.ensures.value ∙ c.self.view_is) c.snapshot.ensures.err

pub returns-clause-book : goal.returns-clause-book
returns-clause-book g c = subst (λ (b : BookView g.row.D.Denot). AreBooks g.D.LogDisk.drive g.I.Index.WIDTH b c.snapshot.new.self) (c.deref_mut.ensures.value ∙ c.self.view_is) c.snapshot.ensures.book
