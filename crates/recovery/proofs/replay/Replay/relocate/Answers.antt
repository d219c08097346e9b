use Rattle.std.proofs.Common.{sym, ◌∙◌}
use Rattle.recovery.specs.LeafMap.{names_of}
use Rattle.recovery.proofs.CellEffects.{refuses_move, refuses_stale}
use Rattle.recovery.proofs.replay.Replay.relocate.Goals as goal

pub returns-in_default-clause-steps : goal.returns-in_default-clause-steps
returns-in_default-clause-steps c =
    let w = c.self.inside in
    rw (← c.self.view_is)
    (refuses_move w.width (record { world = w.members; leaves = names_of w.leaves; splits = w.splits; begun = w.begun }) c.args.id c.args.to c.replace.new.self (sym c.replace.ensures.found ∙ c.in_default.is) c.replace.ensures.moved)

pub returns-then-to-old-clause-steps : goal.returns-then-to-old-clause-steps
returns-then-to-old-clause-steps c =
    let w = c.self.inside in
    rw (← c.self.view_is)
    (refuses_stale w.width (record { world = w.members; leaves = names_of w.leaves; splits = w.splits; begun = w.begun }) c.args.id c.args.to c.in-Some.old c.replace.new.self c.replace-then-to-old.new.self c.replace.ensures.world
    (sym c.in-Some.is ∙ c.replace.ensures.found) c.replace.ensures.moved c.if-to-old.true c.replace-then-to-old.ensures.moved)
