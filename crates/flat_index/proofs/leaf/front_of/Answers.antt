use Rattle.std.proofs.Common.{◌∙◌, List, ◌++◌, take, ap}
use Rattle.flat_index.specs.declared.leaf.FlatLeaf.{FlatLeaf}
use Rattle.flat_index.specs.Seen.{seen}
use Rattle.flat_index.proofs.SeenLeaves.{seen-take}
use Rattle.flat_index.proofs.leaf.front_of.Goals as goal

pub returns : goal.returns
returns c =
    c.in_ok-push_shared.ensures
    ∙ ap (λ (l : List FlatLeaf). seen l ++ seen (take c.args.count c.args.leaves.now)) c.in_ok-front.ensures.items
    ∙ seen-take c.args.count c.args.leaves.now
