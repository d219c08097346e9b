use Rattle.sessions.proofs.WorldSteps.{any_start}
use Rattle.store_tests.proofs.stores.new_store.Goals as goal

pub new-requires-clause-start : goal.new-requires-clause-start
new-requires-clause-start g c = any_start g.D.LogDisk.drive c.in-Ok.book.log
