use Rattle.follower.proofs.TurnLemmas.{restarted, not_restarted}
use Rattle.follower.proofs.follower.Follower.restart.Goals as goal

pub returns-in-Ok-clause-made : goal.returns-in-Ok-clause-made
returns-in-Ok-clause-made g c =
    let inside = c.self.inside in
    restarted g.D.LogDisk.drive c.args.cells.now c.args.self (g.met.D.LogDisk.keeps_laws c.args.self.disk) c.requires.holds inside.log inside.width inside.known c.cells-held.result inside.packets.items inside.acks.items
    c.give_back.result c.self.view_is c.give_back.ensures c.cells-held.ensures.cells c.in-Ok.log c.in-Ok.ensures.opened

pub returns-in-Err-clause-failed : goal.returns-in-Err-clause-failed
returns-in-Err-clause-failed g c =
    let inside = c.self.inside in
    not_restarted g.D.LogDisk.drive c.args.cells.now c.args.self (g.met.D.LogDisk.keeps_laws c.args.self.disk) c.requires.holds inside.log inside.width inside.known c.cells-held.result inside.packets.items inside.acks.items
    c.give_back.result c.self.view_is c.give_back.ensures c.cells-held.ensures.cells c.in-Err.refused.disk c.in-Err.refused.fault c.in-Err.ensures.refused
