use Rattle.std.proofs.Common.{◌∙◌}
use Rattle.kept_log.proofs.Waiting.{in-failed}
use Rattle.commit_book.proofs.book.Book.closed.Goals as goal

pub returns-clause-closed : goal.returns-clause-closed
returns-clause-closed g c =
    let b = c.self.inside in
    rw (← c.self.view_is) (c.closed.ensures ∙ in-failed g.D.LogDisk.drive g.I.Index.WIDTH b.opening b.history.entries b.journal c.self.invariant.on_log)
