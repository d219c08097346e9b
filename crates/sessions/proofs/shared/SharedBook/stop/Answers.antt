use Rattle.std.proofs.Common.{subst, sym}
use Rattle.commit_book.specs.BookView.{BookView}
use Rattle.sessions.specs.Shared.{IsShared}
use Rattle.sessions.proofs.WorldSteps.{shared_still, spare_still, stop_world}
use Rattle.sessions.proofs.shared.SharedBook.stop.Goals as goal

pub invariant_of-self : goal.invariant_of-self
invariant_of-self g c =
    let m = c.deref_mut.result.now in
    let held : IsShared g.D.LogDisk.drive g.O.Start.unlogged g.O.Start.is m =
    subst (λ (b : BookView g.row.D.Denot). IsShared g.D.LogDisk.drive g.O.Start.unlogged g.O.Start.is b) (sym c.deref_mut.ensures.value) c.self.invariant.0 in (
      shared_still g.D.LogDisk.drive g.O.Start.unlogged g.O.Start.is m c.stop.new.self c.stop.ensures.book.origin held.start
          (stop_world m c.stop.new.self c.stop.result c.stop.ensures.ok c.stop.ensures.err c.stop.ensures.book.origin.opening held.has),
      spare_still _ m c.stop.new.self c.deref_mut.ensures.value c.stop.ensures.book.origin c.self.invariant.1,
    )
