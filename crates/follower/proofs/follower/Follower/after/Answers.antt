use Rattle.std.proofs.Common.{refl}
use Rattle.std.proofs.lemmas.Result.{IfOk-weaker, IfErr-weaker}
use Rattle.follower.specs.declared.turns.Turn.TheVariants.{Send, Ack}
use Rattle.follower.proofs.TurnLemmas.{quiet, no_room}
use Rattle.follower.proofs.follower.Follower.after.Goals as goal

pub returns-in-Send-clause-made : goal.returns-in-Send-clause-made
returns-in-Send-clause-made g c =
    rw c.in-Send.is
    (IfOk-weaker c.send.result _ _
    (λ f is. quiet g.D.LogDisk.drive c.args.cells.now c.args.self (g.met.D.LogDisk.keeps_laws c.args.self.disk) c.requires.holds (Send c.in-Send.cell) f is refl (λ brings. absurd brings, λ none all told. told)) c.send.ensures.sent)

pub returns-in-Send-clause-failed : goal.returns-in-Send-clause-failed
returns-in-Send-clause-failed g c =
    rw c.in-Send.is
    (IfErr-weaker c.send.result _ _
    (λ e is. no_room g.D.LogDisk.drive c.args.cells.now c.args.self (g.met.D.LogDisk.keeps_laws c.args.self.disk) c.requires.holds (Send c.in-Send.cell) e.disk e.fault is.0 is.1 tt) c.send.ensures.memory)

pub returns-in-Ack-clause-made : goal.returns-in-Ack-clause-made
returns-in-Ack-clause-made g c =
    rw c.in-Ack.is
    (quiet g.D.LogDisk.drive c.args.cells.now c.args.self (g.met.D.LogDisk.keeps_laws c.args.self.disk) c.requires.holds (Ack c.in-Ack.number) c.learn.result c.learn.ensures refl (λ brings. absurd brings, λ none all told. told))
