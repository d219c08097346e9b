use Rattle.std.proofs.Common.{sym, ◌∙◌}
use Rattle.recovery.specs.LeafMap.{names_of}
use Rattle.recovery.proofs.CellEffects.{refuses_remove}
use Rattle.recovery.proofs.replay.Replay.remove.Goals as goal

pub returns-in_default-clause-steps : goal.returns-in_default-clause-steps
returns-in_default-clause-steps c =
    let w = c.self.inside in
    rw (← c.self.view_is)
    (refuses_remove w.width (record { world = w.members; leaves = names_of w.leaves; splits = w.splits; begun = w.begun }) c.args.id c.remove.new.self (sym c.remove.ensures.found ∙ c.in_default.is) c.remove.ensures.gone)
