use Rattle.pisrakun.proofs.Exact.{rotates-same}
use Rattle.pisrakun.proofs.object_store.ObjectStore.rotate_above.Goals as goal

pub returns-clause-now : goal.returns-clause-now
returns-clause-now g c =
    rw (← c.self.view_is) (rotates-same g.D.LogDisk.drive g.I.Index.WIDTH c.args.records c.self.inside.pass c.rotate_above.new.pass c.rotate_above.result c.self.invariant.parts c.rotate_above.ensures).world
