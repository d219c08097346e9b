use Rattle.std.proofs.Common.{◌∙◌, sym}
use Rattle.commit_book.proofs.Rotations.{table-world}
use Rattle.commit_book.proofs.book.Book.rotate.Goals as goal

pub on_log-requires-clause-world : goal.on_log-requires-clause-world
on_log-requires-clause-world g c = table-world g.D.LogDisk.drive g.I.Index.WIDTH c.self.inside c.self.invariant c.args.self c.self.view_is ∙ sym c.requires.content.world
