use Rattle.std.proofs.Common.{◌∙◌, sym, ap}
use Rattle.std.proofs.lemmas.Result.{IfOk-weaker, IfErr-weaker}
use Rattle.follower.specs.declared.turns.Turn.TheVariants.{Arrive}
use Rattle.follower.specs.Follow.{acknowledging}
use Rattle.follower.specs.Holding.{with_state}
use Rattle.follower.proofs.TurnLemmas.{quiet, no_room, no_calls, added, lost}
use Rattle.follower.proofs.follower.Follower.arrive.Goals as goal

pub returns-in-Some-clause-made : goal.returns-in-Some-clause-made
returns-in-Some-clause-made g c =
    IfOk-weaker c.add.result _ _ (λ f is. added g.D.LogDisk.drive c.args.cells.now c.args.self (g.met.D.LogDisk.keeps_laws c.args.self.disk) c.requires.holds c.args.packet c.in-Some.cell.now c.in-Some.ensures f is) c.add.ensures.added

pub returns-in-Some-clause-failed : goal.returns-in-Some-clause-failed
returns-in-Some-clause-failed g c =
    IfErr-weaker c.add.result _ _ (λ e is. lost g.D.LogDisk.drive c.args.cells.now c.args.self (g.met.D.LogDisk.keeps_laws c.args.self.disk) c.requires.holds c.args.packet c.in-Some.cell.now c.in-Some.ensures e.disk e.fault is) c.add.ensures.lost

pub returns-in-None-clause-made : goal.returns-in-None-clause-made
returns-in-None-clause-made g c =
    IfOk-weaker c.acknowledge.result _ _
    (λ f is. quiet g.D.LogDisk.drive c.args.cells.now c.args.self (g.met.D.LogDisk.keeps_laws c.args.self.disk) c.requires.holds (Arrive c.args.packet) f
    (is ∙ ap (λ n. with_state (acknowledging n c.args.self.state) c.args.self) (sym c.in-None.ensures)) c.in-None.ensures
    (no_calls g.D.LogDisk.drive c.args.cells.now c.args.self (g.met.D.LogDisk.keeps_laws c.args.self.disk) c.requires.holds c.args.packet c.in-None.ensures)) c.acknowledge.ensures.sent

pub returns-in-None-clause-failed : goal.returns-in-None-clause-failed
returns-in-None-clause-failed g c =
    IfErr-weaker c.acknowledge.result _ _
    (λ e is. no_room g.D.LogDisk.drive c.args.cells.now c.args.self (g.met.D.LogDisk.keeps_laws c.args.self.disk) c.requires.holds (Arrive c.args.packet) e.disk e.fault is.0 is.1 tt) c.acknowledge.ensures.memory
