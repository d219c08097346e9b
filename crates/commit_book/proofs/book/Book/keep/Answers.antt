use Rattle.commit_book.proofs.BookStates.{is_book}
use Rattle.commit_book.proofs.book.Book.keep.Goals as goal

pub returns : goal.returns
returns g c = rw (← c.self.view_is) (is_book g.D.LogDisk.drive g.I.Index.WIDTH c.self.inside c.self.invariant c.len-points.ensures.leaves c.len-points.ensures.rows)
