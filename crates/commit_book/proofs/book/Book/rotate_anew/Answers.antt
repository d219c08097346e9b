use Rattle.std.proofs.Common.{◌∙◌, ℕ, ap, sym, subst}
use Rattle.plain_list.specs.World.{World}
use Rattle.point_table.specs.Sized.{StandsBySize}
use Rattle.point_table.specs.TableView.{TableView}
use Rattle.commit_book.specs.BookView.{BookView}
use Rattle.commit_book.proofs.Rotations.{table-world}
use Rattle.commit_book.proofs.book.Book.rotate_anew.Goals as goal

pub take_index-requires : goal.take_index-requires
take_index-requires g c =
    let leaves = g.I.Index.leaves c.args.index in
    let world = table-world g.D.LogDisk.drive g.I.Index.WIDTH c.self.inside c.self.invariant c.args.self c.self.view_is in
    let size = ap (λ (v : BookView g.row.D.Denot). v.bucket) c.self.view_is in
    subst (λ (n : ℕ). StandsBySize g.I.Index.WIDTH n c.self.inside.table.world leaves) (sym size)
    (subst (λ (w : World). StandsBySize g.I.Index.WIDTH c.args.self.bucket w leaves) (sym world) c.requires.content.stands)

pub on_log-requires-clause-world : goal.on_log-requires-clause-world
on_log-requires-clause-world g c =
    ap (λ (t : TableView). t.world) c.take_index.ensures
    ∙ table-world g.D.LogDisk.drive g.I.Index.WIDTH c.self.inside c.self.invariant c.args.self c.self.view_is ∙ sym c.requires.content.world
