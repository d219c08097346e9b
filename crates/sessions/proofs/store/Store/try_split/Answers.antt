use Rattle.std.proofs.Common.{rules}
use Rattle.sessions.proofs.store.Store.try_split.Goals as goal

pub returns-in-Some-clause-tries : goal.returns-in-Some-clause-tries
returns-in-Some-clause-tries g c = search rules
