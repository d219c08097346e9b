use Rattle.std.proofs.Common.{List, subst}
use Rattle.plain_list.specs.declared.world.Member.{Member}
use Rattle.point_table.specs.Nets.{Adds}
use Rattle.point_table.proofs.NetSteps.{has_all, published}
use Rattle.point_table.proofs.table.net.make.Goals as goal

pub leave-requires : goal.leave-requires
leave-requires g c =
    has_all c.args.members.now c.insert_then.new.members c.args.left.now.entries c.in_ok-new.new.items c.in_ok-new.ensures
    (subst (λ (ms : List Member). Adds ms c.args.members.now c.insert_then.new.members) c.deref-2.ensures.value c.in_ok-insert_then.ensures.ok)

pub returns-clause-ok : goal.returns-clause-ok
returns-clause-ok g c =
    published c.args.members.now c.insert_then.new.members c.leave.new.members c.args.left.now.entries c.in_ok-new.new.items c.requires.world c.in_ok-new.ensures
    (subst (λ (ms : List Member). Adds ms c.args.members.now c.insert_then.new.members) c.deref-2.ensures.value c.in_ok-insert_then.ensures.ok) c.leave.ensures
