use Rattle.commit_book.proofs.Syncing.{inside-at_sync}
use Rattle.commit_book.proofs.book.Book.at_sync.Goals as goal

pub invariant_of-result : goal.invariant_of-result
invariant_of-result g c = inside-at_sync g.D.LogDisk.drive g.I.Index.WIDTH _ c.self.inside c.in-Ok.journal c.self.invariant c.in-Ok.ensures.ok
