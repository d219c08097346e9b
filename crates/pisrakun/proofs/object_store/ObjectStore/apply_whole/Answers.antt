use Rattle.store_client.proofs.Batched.{batch-done, batch-refused}
use Rattle.pisrakun.proofs.object_store.ObjectStore.apply_whole.Goals as goal

pub rows_of-row-requires : goal.rows_of-row-requires
rows_of-row-requires g c = c.ops-ops.ensures.batch.few

pub tend_and_apply-requires-clause-updates : goal.tend_and_apply-requires-clause-updates
tend_and_apply-requires-clause-updates g c = c.ops-ops.ensures.batch.updates

pub returns-in-Err-clause-applies : goal.returns-in-Err-clause-applies
returns-in-Err-clause-applies g c =
    rw (← c.self.view_is)
    (batch-refused g.I.Index.WIDTH c.args.batch.now _ c.ops-ops.result.now c.rows_of-row.result.0 c.rows_of-row.result.1 c.ops-ops.ensures.ops c.rows_of-row.ensures.first c.rows_of-row.ensures.next c.tend_and_apply.new.pass c.in-Err.fault
    c.in-Err.ensures.applied c.tend_and_apply.ensures.pass)

pub returns-clause-applies : goal.returns-clause-applies
returns-clause-applies g c =
    rw (← c.self.view_is)
    (batch-done g.I.Index.WIDTH c.args.batch.now _ c.ops-ops.result.now c.rows_of-row.result.0 c.rows_of-row.result.1 c.ops-ops.ensures.ops c.rows_of-row.ensures.first c.rows_of-row.ensures.next c.tend_and_apply.new.pass
    c.try_split-split.new.pass c.split_some.new.pass c.in-Ok.done c.try_split-split.result c.more_splits-more.result c.in-Ok.ensures.applied c.tend_and_apply.ensures.pass c.try_split-split.ensures.tries c.try_split-split.ensures.pass
    c.more_splits-more.ensures c.split_some.ensures.tries c.split_some.ensures.pass)
