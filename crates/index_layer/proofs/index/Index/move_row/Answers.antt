use Rattle.index_layer.proofs.MovedRows.{holds-after}
use Rattle.index_layer.proofs.index.Index.move_row.Goals as goal

pub with_row-requires : goal.with_row-requires
with_row-requires g c = holds-after c.args.from c.args.to.row (g.Self.Index.leaves c.args.self.now) (g.Self.Index.leaves c.in_ok-between.between) (g.met.Self.Index.are_leaves c.args.self.now) c.in_ok-between.ensures c.requires.absent
