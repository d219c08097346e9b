use Rattle.std.proofs.Common.{sym, ◌∙◌}
use Rattle.recovery.proofs.split_map.SplitMap.name.Goals as goal
use Rattle.recovery.proofs.SplitMaps.{split_name-splits_of}

pub returns : goal.returns
returns c = c.copied.ensures ∙ c.get.ensures.value ∙ sym (rw (← c.self.view_is) (split_name-splits_of c.self.inside.names.entries c.args.number))
