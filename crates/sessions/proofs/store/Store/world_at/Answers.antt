use Rattle.sessions.proofs.Contents.{worlds-at}
use Rattle.sessions.proofs.store.Store.world_at.Goals as goal

pub returns-clause-world_at : goal.returns-clause-world_at
returns-clause-world_at g c =
    let e = c.world_at-world.ensures in
    worlds-at g.D.LogDisk.drive g.I.Index.WIDTH c.take-book.result c.args.pass.now c.take-book.new.pass c.put_back.new.pass e.book c.take-book.ensures c.put_back.ensures c.world_at-world.result e.world e.place e.is_world
