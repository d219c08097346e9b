use Rattle.std.proofs.Common.{ap, ◌∙◌}
use Rattle.recovery.specs.SplitMap.{splits_of}
use Rattle.recovery.proofs.split_map.SplitMap.remove.Goals as goal
use Rattle.recovery.proofs.SplitMaps.{splits_of-remove_entry, IsRisingSplits-filter}

pub invariant_of-self : goal.invariant_of-self
invariant_of-self c =
    rw (c.remove.ensures.entries, splits_of-remove_entry c.args.number c.self.inside.names.entries c.self.invariant) (IsRisingSplits-filter _ _ c.self.invariant)

pub returns : goal.returns
returns c = rw (← c.self.view_is) (ap splits_of c.remove.ensures.entries ∙ splits_of-remove_entry c.args.number c.self.inside.names.entries c.self.invariant)
