use Rattle.std.proofs.Common.{subst, [], List}
use Rattle.index_layer.specs.Leaves.{Leaf}
use Rattle.index_layer.specs.Narrowed.{PassesBare}
use Rattle.browse_query.proofs.Begins.{begins-leaves, begins-objects}
use Rattle.browse_query.proofs.browse.Browse.new.Goals as goal

pub returns-clause-objects : goal.returns-clause-objects
returns-clause-objects g c =
    let leaves : List Leaf = g.I.Index.leaves c.args.index.now in
    let passed : PassesBare [] c.narrow-name.result.0 leaves = subst (λ n. PassesBare n c.narrow-name.result.0 leaves) c.whole.ensures c.narrow-name.ensures.passed in
    begins-objects leaves (g.I.Index.is_at c.args.index.now) c.args.from c.narrow-name.result.0 c.narrow-name.result.1.now c.at.result c.at.ensures passed

pub returns-clause-leaves : goal.returns-clause-leaves
returns-clause-leaves g c =
    let leaves : List Leaf = g.I.Index.leaves c.args.index.now in
    let passed : PassesBare [] c.narrow-name.result.0 leaves = subst (λ n. PassesBare n c.narrow-name.result.0 leaves) c.whole.ensures c.narrow-name.ensures.passed in
    begins-leaves leaves (g.I.Index.is_at c.args.index.now) c.args.from c.narrow-name.result.0 c.narrow-name.result.1.now c.at.result c.at.ensures passed
