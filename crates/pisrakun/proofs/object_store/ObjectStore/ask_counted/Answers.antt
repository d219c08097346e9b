use Rattle.store_client.proofs.Asks.{refuses, answers}
use Rattle.pisrakun.proofs.object_store.ObjectStore.ask_counted.Goals as goal

pub returns-in-Err-clause-asked : goal.returns-in-Err-clause-asked
returns-in-Err-clause-asked g c =
    rw (← c.self.view_is, c.saturating_add-self-inside.ensures)
    (refuses g.I.Index.WIDTH c.args.op.now _ c.args.steps.now c.tend_and_call.new.steps c.tend_and_call.new.pass c.in-Err.fault c.in-Err.ensures.called c.tend_and_call.ensures.pass c.in-Err.ensures.opened c.in-Err.ensures.refused)

pub returns-clause-asked : goal.returns-clause-asked
returns-clause-asked g c =
    rw (← c.self.view_is, c.saturating_add-self-inside.ensures, c.of-self-inside.ensures)
    (answers g.I.Index.WIDTH c.args.op.now _ c.args.steps.now c.tend_and_call.new.steps c.tend_and_call.new.pass c.try_split-split.new.pass c.in-Ok.done c.try_split-split.result c.in-Ok.ensures.called c.tend_and_call.ensures.pass
    c.try_split-split.ensures.tries c.try_split-split.ensures.pass c.in-Ok.ensures.opened)
