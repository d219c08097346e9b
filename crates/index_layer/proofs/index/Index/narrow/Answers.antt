use Rattle.index_layer.proofs.Narrowing.{passes-none}
use Rattle.index_layer.proofs.index.Index.narrow.Goals as goal

pub returns-clause-passed : goal.returns-clause-passed
returns-clause-passed g c = passes-none c.args.name (g.Self.Index.leaves c.args.self.now)
