use Rattle.commit_book.proofs.Syncing.{inside-may_move}
use Rattle.commit_book.proofs.book.Book.may_move.Goals as goal

pub invariant_of-result : goal.invariant_of-result
invariant_of-result g c = inside-may_move g.D.LogDisk.drive g.I.Index.WIDTH _ c.self.inside c.may_move.result c.self.invariant c.may_move.ensures
