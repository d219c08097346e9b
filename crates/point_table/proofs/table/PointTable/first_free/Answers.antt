use Rattle.std.proofs.Common.{ap, ◌∙◌}
use Rattle.plain_list.specs.World.{places_of}
use Rattle.point_table.specs.Crowded.{first_free}
use Rattle.point_table.specs.Splits.{splits_of}
use Rattle.point_table.proofs.FullLemmas.{first_free-crowded_of}
use Rattle.point_table.proofs.table.PointTable.first_free.Goals as goal

pub returns : goal.returns
returns g c =
    let leaves = g.I.Index.leaves c.self.inside.index in
    rw (← c.self.view_is)
    (c.first_free.ensures ∙ ap (first_free (splits_of c.args.begun.now)) c.self.invariant.crowded
    ∙ first_free-crowded_of g.I.Index.WIDTH c.self.inside.size (places_of c.self.inside.members) (splits_of c.args.begun.now) leaves c.self.invariant.world.rising (g.met.I.Index.are_leaves c.self.inside.index).rows c.self.invariant.rows)
