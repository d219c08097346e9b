use Rattle.std.proofs.Common.{ap, ◌∙◌}
use Rattle.recovery.specs.SplitMap.{splits_of}
use Rattle.recovery.proofs.split_map.SplitMap.push.Goals as goal
use Rattle.recovery.proofs.SplitMaps.{splits_of-insert_entry, IsRisingSplits-push}

pub invariant_of-self-2 : goal.invariant_of-self-2
invariant_of-self-2 c =
    let below = rw (← c.self.view_is) at c.requires in
    rw (c.in_ok-insert.ensures.entries, splits_of-insert_entry c.args.number c.args.name c.self.inside.names.entries below)
    (IsRisingSplits-push (splits_of c.self.inside.names.entries) (record { number = c.args.number; name = c.args.name }) c.self.invariant below)

pub returns-clause-ok : goal.returns-clause-ok
returns-clause-ok c =
    let below = rw (← c.self.view_is) at c.requires in
    rw (← c.self.view_is) (ap splits_of c.in_ok-insert.ensures.entries ∙ splits_of-insert_entry c.args.number c.args.name c.self.inside.names.entries below)
