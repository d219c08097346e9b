use Rattle.std.proofs.Common.{take, drop, sym, subst, List, get_or}
use Rattle.std.proofs.lemmas.List.{take_more, take-append-drop}
use Rattle.plain_list.specs.declared.world.Member.{Member}
use Rattle.plain_list.specs.declared.world.Stamped.{Stamped}
use Rattle.plain_list.specs.World.{World}
use Rattle.plain_list.specs.MemberMap.{IsPut}
use Rattle.point_table.specs.Nets.{Adds, Touches}
use Rattle.point_table.proofs.NetSteps.{adds_next, touches_more}
use Rattle.point_table.proofs.table.net.insert_each.Goals as goal

-- what a read behind the end would give
abbrev beyond : Member
beyond = record { id = 0; at = record { x = 0; y = 0 }; moment = 0 }

pub returns-then-len-ge-MOST_MEMBERS-clause-some : goal.returns-then-len-ge-MOST_MEMBERS-clause-some
returns-then-len-ge-MOST_MEMBERS-clause-some c =
    let new = c.args.new.now in
    let i = c.loop-member.member-index in
    subst (λ (ms : List Member). Touches ms c.args.members.now c.loop-member.members) (take-append-drop i new) (touches_more (take i new) (drop i new) c.args.members.now c.loop-member.members c.loop-member.invariant.touches)

pub returns-in_err-insert-clause-some : goal.returns-in_err-insert-clause-some
returns-in_err-insert-clause-some c =
    let new = c.args.new.now in
    let i = c.loop-member.member-index in
    subst (λ (world : World). Touches new c.args.members.now world) (sym c.in_err-insert.ensures.err)
    (subst (λ (ms : List Member). Touches ms c.args.members.now c.loop-member.members) (take-append-drop i new) (touches_more (take i new) (drop i new) c.args.members.now c.loop-member.members c.loop-member.invariant.touches))

pub loop-member-preserved : goal.loop-member-preserved
loop-member-preserved c =
    let new = c.args.new.now in
    let i = c.loop-member.member-index in
    let m = get_or new i beyond in
    let put = subst (λ (s : Stamped). IsPut m.id s c.in_ok-insert.field-0 c.loop-member.members c.insert.new.self) c.stamped.ensures c.in_ok-insert.ensures.ok in
    subst (λ (ms : List Member). Adds ms c.args.members.now c.insert.new.self) (sym (take_more new i beyond c.loop-member-test.true))
    (adds_next (take i new) m c.in_ok-insert.field-0 c.args.members.now c.loop-member.members c.insert.new.self c.loop-member.invariant put c.in_ok-insert.ensures.world)
