use Rattle.std.proofs.Common.{◌≡◌, sym, ap, subst, ◌∙◌}
use Rattle.plain_list.specs.World.{World, IsWorld}
use Rattle.point_table.specs.Nets.{Adds, settle_each}
use Rattle.point_table.proofs.NetSteps.{exchange_all, exchanged}
use Rattle.point_table.proofs.table.net.exchange.Goals as goal

pub leave-requires : goal.leave-requires
leave-requires g c =
    let net = c.args.left.now.entries in
    let world = c.args.members.now in
    let copy_is : c.in_ok-copy.copy ≡ world = c.in_ok-copy.ensures ∙ c.in_ok-to_world.ensures in
    let mid_is : c.settle_each.new.members ≡ settle_each net world = c.settle_each.ensures.is ∙ ap (settle_each net) copy_is in
    exchange_all world c.insert_each.new.members net c.args.new.now c.settle_each.ensures.ordered c.requires.new
    (subst (λ (ms : World). Adds c.args.new.now ms c.insert_each.new.members) mid_is c.in_ok-insert_each.ensures.all)

pub returns-then-commit-clause-ok : goal.returns-then-commit-clause-ok
returns-then-commit-clause-ok g c =
    let net = c.args.left.now.entries in
    let world = c.args.members.now in
    let copy_is : c.in_ok-copy.copy ≡ world = c.in_ok-copy.ensures ∙ c.in_ok-to_world.ensures in
    let mid_is : c.settle_each.new.members ≡ settle_each net world = c.settle_each.ensures.is ∙ ap (settle_each net) copy_is in
    exchanged world c.settle_each.new.members c.insert_each.new.members c.leave.new.members net c.args.new.now c.requires.world mid_is
    (λ is. c.settle_each.ensures.world (subst IsWorld (sym copy_is) is)) c.requires.new c.in_ok-insert_each.ensures.all c.leave.ensures
