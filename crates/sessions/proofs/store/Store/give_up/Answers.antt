use Rattle.std.proofs.Common.{rules}
use Rattle.sessions.proofs.store.Store.give_up.Goals as goal

pub returns-in-Ok : goal.returns-in-Ok
returns-in-Ok g c = search rules
