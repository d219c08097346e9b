use Rattle.std.proofs.Common.{◌∙◌, ap}
use Rattle.zorder.specs.Key.{is_under}
use Rattle.index_layer.specs.Below.{begins_some}
use Rattle.index_layer.proofs.Narrowing.{under-none, some-whole}
use Rattle.index_layer.proofs.index.Index.reach.Goals as goal

pub returns-clause-over : goal.returns-clause-over
returns-clause-over g c = (ap (λ n. is_under n c.args.from) c.whole.ensures ∙ under-none c.args.from, ap (λ n. is_under n c.args.to) c.whole.ensures ∙ under-none c.args.to)

pub returns-clause-some : goal.returns-clause-some
returns-clause-some g c =
    let leaves = g.Self.Index.leaves c.args.self.now in
    ap (λ n. begins_some n leaves) c.whole.ensures ∙ some-whole leaves (g.met.Self.Index.are_leaves c.args.self.now).tile
