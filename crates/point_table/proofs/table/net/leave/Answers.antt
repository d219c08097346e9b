use Rattle.std.proofs.Common.{ap, ◌∙◌}
use Rattle.plain_list.specs.World.{World, position_of}
use Rattle.point_table.proofs.NetSteps.{settle_positions}
use Rattle.point_table.proofs.table.net.leave.Goals as goal

pub returns : goal.returns
returns c =
    record {
      positions = λ id. ap (λ (world : World). position_of world id) c.settle_each.ensures.is ∙ settle_positions c.args.left.now.entries c.args.members.now c.settle_each.ensures.ordered c.requires id;
      world = c.settle_each.ensures.world;
    }
