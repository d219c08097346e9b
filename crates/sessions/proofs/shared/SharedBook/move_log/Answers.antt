use Rattle.std.proofs.Common.{subst, sym}
use Rattle.commit_book.specs.BookView.{BookView}
use Rattle.sessions.specs.Shared.{IsShared}
use Rattle.sessions.proofs.WorldSteps.{moved_entries, moved_shared, spare_moved}
use Rattle.sessions.proofs.shared.SharedBook.move_log.Goals as goal

pub invariant_of-self : goal.invariant_of-self
invariant_of-self g c =
    let m = c.deref_mut.result.now in
    let held : IsShared g.D.LogDisk.drive g.O.Start.unlogged g.O.Start.is m =
    subst (λ (b : BookView g.row.D.Denot). IsShared g.D.LogDisk.drive g.O.Start.unlogged g.O.Start.is b) (sym c.deref_mut.ensures.value) c.self.invariant.0 in
    let opened = c.args.opened in (
      moved_shared g.D.LogDisk.drive g.O.Start.unlogged g.O.Start.is m c.move_log.new.self c.move_log.ensures.book.origin
          (moved_entries g.I.Index.WIDTH opened.seen opened.log opened.start.value m c.move_log.new.self _ c.move_log.result c.move_log.ensures.moved c.move_log.ensures.back) held,
      spare_moved _ m c.move_log.new.self c.deref_mut.ensures.value c.move_log.ensures.book.origin c.self.invariant.1,
    )
