use Rattle.std.proofs.Common.{ap, ◌∙◌, get_or}
use Rattle.plain_list.specs.declared.world.Member.{Member}
use Rattle.plain_list.specs.World.{World, position_of, member_of}
use Rattle.plain_list.specs.Answer.{with_member}
use Rattle.plain_list.proofs.MemberMaps.{inserted_new}
use Rattle.plain_list.proofs.RisingMembers.{position_of-next, with_member-next}
use Rattle.plain_list.proofs.member_shards.shards_of.Goals as goal

-- what a read behind the end would give
abbrev beyond : Member
beyond = record { id = 0; at = record { x = 0; y = 0 }; moment = 0 }

pub loop-member-preserved : goal.loop-member-preserved
loop-member-preserved c =
    let world = c.args.world.now in
    let index = c.loop-member.member-index in
    let none = ap (λ (ms : World). position_of ms (get_or world index beyond).id) c.loop-member.invariant ∙ position_of-next world index beyond c.loop-member-test.true c.requires.rising in
    inserted_new c.in_ok-insert.field-0 _ _ c.in_ok-insert.ensures.ok.is (c.in_ok-insert.ensures.ok.found ∙ none)
    ∙ ap (λ s. with_member (member_of (get_or world index beyond).id s) c.loop-member.shards) c.stamped.ensures
    ∙ ap (with_member (get_or world index beyond)) c.loop-member.invariant
    ∙ with_member-next world index beyond c.loop-member-test.true c.requires.rising
