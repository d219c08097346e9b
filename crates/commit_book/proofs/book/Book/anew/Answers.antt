use Rattle.std.proofs.Common.{◌∙◌}
use Rattle.commit_book.proofs.Rotations.{table-world}
use Rattle.commit_book.proofs.book.Book.anew.Goals as goal

pub returns-clause-world : goal.returns-clause-world
returns-clause-world g c = c.in_ok-world.ensures ∙ table-world g.D.LogDisk.drive g.I.Index.WIDTH c.self.inside c.self.invariant c.args.self.now c.self.view_is
