use Rattle.std.proofs.Common.{sym, ◌∙◌}
use Rattle.plain_list.proofs.member_map.MemberMap.position.Goals as goal
use Rattle.plain_list.proofs.MemberMaps.{position_of-world_of}

pub returns : goal.returns
returns c = c.copied.ensures ∙ c.get.ensures.value ∙ sym (rw (← c.self.view_is) (position_of-world_of c.self.inside.positions.entries c.args.id))
