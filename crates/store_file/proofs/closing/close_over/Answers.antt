use Rattle.store_file.proofs.StoreFacts.{closes-store}
use Rattle.store_file.proofs.closing.close_over.Goals as goal

pub returns-clause-closes : goal.returns-clause-closes
returns-clause-closes g c =
    closes-store g.D.LogDisk.drive g.I.Index.WIDTH g.O.Start.unlogged g.O.Start.is c.close-book.result c.args.pass c.parts_of.result.disk c.closed-lost.ensures.book c.close-book.ensures.value c.close-book.ensures.own
    c.requires.logged c.requires.once c.close-book.ensures.start c.parts_of.ensures.disk
