use Rattle.std.proofs.Common.{◌∙◌, sym, ap}
use Rattle.kept_log.specs.Journal.{disk_in}
use Rattle.commit_book.specs.BookView.{BookView}
use Rattle.store_file.proofs.RotatingFacts.{closes-new, disk-moves}
use Rattle.store_file.proofs.spare.let_rotate.Goals as goal

pub returns-in-Err-clause-back : goal.returns-in-Err-clause-back
returns-in-Err-clause-back g c =
    let drive = g.D.LogDisk.drive in
    let old = c.close-book.result in
    closes-new drive g.I.Index.WIDTH g.O.Start.unlogged g.O.Start.is c.requires.logged c.requires.still c.args.pass old c.closed-lost.ensures.book c.close-book.ensures.value c.close-book.ensures.own
    c.close-book.ensures.start c.requires.new c.disk_of.result
    (sym (disk-moves drive old.log) ∙ sym (ap (λ (b : BookView _). disk_in b.log) (c.in-Err.ensures.back.0 ∙ c.may_move.ensures)) ∙ c.disk_of.ensures)
