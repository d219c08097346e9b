use Rattle.std.proofs.Common.{rules}
use Rattle.sessions.proofs.store.Store.put_back.Goals as goal

pub put_back-requires-else-grown-clause-value : goal.put_back-requires-else-grown-clause-value
put_back-requires-else-grown-clause-value g c = (search rules, c.requires.origin)

pub returns-else-grown : goal.returns-else-grown
returns-else-grown g c = search rules
