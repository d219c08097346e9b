use Rattle.std.proofs.Common.{sym, ap, ◌∙◌}
use Rattle.plain_list.specs.MemberMap.{world_of}
use Rattle.plain_list.proofs.member_map.MemberMap.remove.Goals as goal
use Rattle.plain_list.proofs.MemberMaps.{position_of-world_of, world_of-remove_entry}
use Rattle.plain_list.proofs.Worlds.{IsWorld-without}

pub invariant_of-self : goal.invariant_of-self
invariant_of-self c = rw (c.remove.ensures.entries, world_of-remove_entry c.args.id c.self.inside.positions.entries c.self.invariant.rising) (IsWorld-without c.args.id _ c.self.invariant)

pub returns-clause-found : goal.returns-clause-found
returns-clause-found c = c.remove.ensures.value ∙ sym (rw (← c.self.view_is) (position_of-world_of c.self.inside.positions.entries c.args.id))

pub returns-clause-gone : goal.returns-clause-gone
returns-clause-gone c = rw (← c.self.view_is) (ap world_of c.remove.ensures.entries ∙ world_of-remove_entry c.args.id c.self.inside.positions.entries c.self.invariant.rising)
