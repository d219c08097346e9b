use Rattle.sessions.proofs.Views.{views}
use Rattle.sessions.proofs.store.Store.look_at.Goals as goal

pub returns-clause-view : goal.returns-clause-view
returns-clause-view g c =
    let view = c.view-view.ensures in
    views g.I.Index.leaves g.D.LogDisk.drive g.I.Index.WIDTH c.take-book.result c.args.pass.now c.take-book.new.pass c.put_back.new.pass c.view-view.result view.book view.world c.take-book.ensures c.put_back.ensures view.index view.place
