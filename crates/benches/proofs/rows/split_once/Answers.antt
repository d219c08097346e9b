use Rattle.index_layer.proofs.FoundLeaves.{found_named}
use Rattle.benches.proofs.rows.split_once.Goals as goal

pub divide-requires-clause-leaf : goal.divide-requires-clause-leaf
divide-requires-clause-leaf g c = (found_named c.args.key (g.I.Index.leaves c.args.index.now) _ c.leaf_of-name.ensures).0
