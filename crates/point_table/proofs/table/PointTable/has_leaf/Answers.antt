use Rattle.std.proofs.Common.{sym}
use Rattle.point_table.proofs.Folding.{named_has}
use Rattle.point_table.proofs.table.PointTable.has_leaf.Goals as goal

pub returns-in-Leaf : goal.returns-in-Leaf
returns-in-Leaf g c = rw (← c.self.view_is) (sym (named_has c.args.name.now (g.I.Index.leaves c.self.inside.index) _ c.in-Leaf.ensures))
