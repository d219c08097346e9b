use Rattle.std.proofs.Common.{sym, subst}
use Rattle.point_table.specs.Crowded.{AreRising}
use Rattle.point_table.proofs.CrowdedNames.{AreRising-crowded_of}
use Rattle.point_table.proofs.table.PointTable.built.Goals as goal

pub from_names-requires : goal.from_names-requires
from_names-requires g c =
    let index = c.in_ok-index.index in
    subst AreRising (sym c.in_ok-names.ensures) (AreRising-crowded_of g.I.Index.WIDTH c.args.size (g.I.Index.leaves index) (g.met.I.Index.are_leaves index).tile)
