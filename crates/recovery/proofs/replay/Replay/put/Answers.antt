use Rattle.recovery.specs.LeafMap.{names_of}
use Rattle.recovery.proofs.CellEffects.{refuses_put}
use Rattle.recovery.proofs.replay.Replay.put.Goals as goal

pub returns-in-Some-clause-steps : goal.returns-in-Some-clause-steps
returns-in-Some-clause-steps c =
    let w = c.self.inside in
    let put = rw c.in-Some.is at c.in_ok-there.ensures.ok in
    rw (← c.self.view_is)
    (refuses_put w.width (record { world = w.members; leaves = names_of w.leaves; splits = w.splits; begun = w.begun }) c.args.id c.args.to c.in-Some.there c.insert.new.self c.replace.new.self c.insert.ensures.world put.found put.is c.replace.ensures.moved)
