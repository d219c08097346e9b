use Rattle.std.proofs.Common.{sym, ap, ◌∙◌, Option}
use Rattle.std.specs.Option.{unwrap_or}
use Rattle.plain_list.specs.declared.world.Stamped.{Stamped}
use Rattle.plain_list.specs.World.{position_of}
use Rattle.point_table.proofs.Nets.{position_of-after_net}
use Rattle.point_table.proofs.table.PointTable.left.Goals as goal

pub returns-in-Some : goal.returns-in-Some
returns-in-Some g c =
    sym (position_of-after_net c.args.plan.now.left.entries c.args.self.now.world c.args.id
    ∙ ap (λ (o : Option (Option Stamped)). unwrap_or o (position_of c.args.self.now.world c.args.id)) (sym c.in-Some.ensures.value))

pub returns-in-None : goal.returns-in-None
returns-in-None g c =
    c.position.ensures
    ∙ sym (position_of-after_net c.args.plan.now.left.entries c.args.self.now.world c.args.id
    ∙ ap (λ (o : Option (Option Stamped)). unwrap_or o (position_of c.args.self.now.world c.args.id)) (sym c.in-None.ensures.value))
