use Rattle.store_file.proofs.StoreFacts.{closes-any}
use Rattle.store_file.proofs.closing.close_store.Goals as goal

pub returns-clause-closes : goal.returns-clause-closes
returns-clause-closes g c = closes-any g.D.LogDisk.drive g.I.Index.WIDTH _ c.args.pass _ c.close_over.ensures.closes
