use Rattle.std.proofs.Common.{refl, Some, None}
use Rattle.store_client.proofs.Tended.{tends-looked, tends-same, tends-stops}
use Rattle.store_client.proofs.tending.tend_if_due.Goals as goal

pub returns-in-Some-clause-tended : goal.returns-in-Some-clause-tended
returns-in-Some-clause-tended g c = (c.in-Some.cell, refl, tends-stops g.D.LogDisk.drive g.I.Index.WIDTH c.args.pass.now c.tend.new.pass c.in-Some.cell c.in-Some.ensures)

pub returns-in-Some-clause-pass : goal.returns-in-Some-clause-pass
returns-in-Some-clause-pass g c = tends-same g.D.LogDisk.drive g.I.Index.WIDTH c.args.pass.now c.tend.new.pass (Some c.in-Some.cell) c.in-Some.ensures

pub returns-in-None-clause-tended : goal.returns-in-None-clause-tended
returns-in-None-clause-tended g c = tends-looked g.D.LogDisk.drive g.I.Index.WIDTH c.args.pass.now c.tend.new.pass c.in-None.ensures

pub returns-in-None-clause-pass : goal.returns-in-None-clause-pass
returns-in-None-clause-pass g c = tends-same g.D.LogDisk.drive g.I.Index.WIDTH c.args.pass.now c.tend.new.pass None c.in-None.ensures
