use Rattle.std.proofs.Common.{take, sym, subst, List, get_or}
use Rattle.std.proofs.lemmas.List.{take_more}
use Rattle.plain_list.specs.declared.world.Member.{Member}
use Rattle.point_table.specs.Nets.{Removes}
use Rattle.point_table.proofs.NetSteps.{removes_next}
use Rattle.point_table.proofs.table.net.remove_each.Goals as goal

-- what a read behind the end would give
abbrev beyond : Member
beyond = record { id = 0; at = record { x = 0; y = 0 }; moment = 0 }

pub loop-member-preserved : goal.loop-member-preserved
loop-member-preserved c =
    let new = c.args.new.now in
    let i = c.loop-member.member-index in
    subst (λ (ms : List Member). Removes ms c.args.members.now c.remove.new.self) (sym (take_more new i beyond c.loop-member-test.true))
    (removes_next (take i new) (get_or new i beyond) c.args.members.now c.loop-member.members c.remove.new.self c.loop-member.invariant c.remove.ensures.gone)
