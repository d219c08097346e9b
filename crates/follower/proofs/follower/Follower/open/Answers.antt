use Rattle.follower.proofs.OpenLemmas.{opens, taken_no_fault, taken_not_strange, told_exact, told_strange, told_whole}
use Rattle.follower.proofs.follower.Follower.open.Goals as goal

pub returns-in-Ok-clause-opened : goal.returns-in-Ok-clause-opened
returns-in-Ok-clause-opened g c =
    opens g.D.LogDisk.drive c.args.width c.args.cells.now (g.D.LogDisk.drive c.args.disk) c.in-Ok.log c.new.result.items c.new-in-Ok.result.items c.requires.leading c.in-Ok.ensures.opened c.new.ensures.items
    c.new-in-Ok.ensures.items

pub returns-in-Ok-clause-exact : goal.returns-in-Ok-clause-exact
returns-in-Ok-clause-exact g c bytes fault told long shown is =
    taken_no_fault c.args.width c.args.cells.now bytes c.in-Ok.log.cells fault (c.in-Ok.ensures.opened.found bytes told).0 long shown is

pub returns-in-Ok-clause-strange : goal.returns-in-Ok-clause-strange
returns-in-Ok-clause-strange g c bytes number told strange =
    taken_not_strange c.args.width c.args.cells.now bytes c.in-Ok.log.cells number (c.in-Ok.ensures.opened.found bytes told).0 strange

pub returns-in-Err-clause-exact : goal.returns-in-Err-clause-exact
returns-in-Err-clause-exact g c bytes fault told long shown is =
    told_exact c.args.width c.args.cells.now bytes (g.D.LogDisk.drive c.args.disk) (g.D.LogDisk.drive c.in-Err.refused.disk) told c.in-Err.refused.fault fault c.in-Err.ensures.refused shown is

pub returns-in-Err-clause-strange : goal.returns-in-Err-clause-strange
returns-in-Err-clause-strange g c bytes number told strange =
    told_strange c.args.width c.args.cells.now bytes (g.D.LogDisk.drive c.args.disk) (g.D.LogDisk.drive c.in-Err.refused.disk) told c.in-Err.refused.fault number c.in-Err.ensures.refused strange

pub returns-in-Err-clause-whole : goal.returns-in-Err-clause-whole
returns-in-Err-clause-whole g c bytes held told taken =
    told_whole c.args.width c.args.cells.now bytes (g.D.LogDisk.drive c.args.disk) (g.D.LogDisk.drive c.in-Err.refused.disk) told c.in-Err.refused.fault held c.in-Err.ensures.refused taken
