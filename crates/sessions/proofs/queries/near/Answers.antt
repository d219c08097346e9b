use Rattle.sessions.proofs.OpenLemmas.{near-opens, near-fails}
use Rattle.sessions.proofs.queries.near.Goals as goal

pub returns-clause-opened : goal.returns-clause-opened
returns-clause-opened g c world names is stands =
    near-opens c.args.at c.args.k (g.I.Index.leaves c.args.index.now) names world c.args.steps.now c.nearest.new.steps stands.names_are c.nearest.ensures.opened (c.nearest.ensures.near world names is stands)
    c.in_ok-nearest.field-0 c.in_ok-nearest.ensures.some

pub returns-in_err-nearest-clause-opened : goal.returns-in_err-nearest-clause-opened
returns-in_err-nearest-clause-opened g c world names is stands =
    near-fails c.args.at c.args.k (g.I.Index.leaves c.args.index.now) names world c.args.steps.now c.nearest.new.steps stands.names_are c.nearest.ensures.opened (c.nearest.ensures.near world names is stands)
    c.from_residual.result c.from_residual.ensures.0
