use Rattle.std.proofs.Common.{◌∙◌, ◌+◌, ◌<◌, List, ◌++◌, length, drop, ap, arith}
use Rattle.flat_index.specs.declared.leaf.FlatLeaf.{FlatLeaf}
use Rattle.flat_index.specs.Seen.{seen}
use Rattle.flat_index.proofs.SeenLeaves.{shared_more}
use Rattle.flat_index.proofs.leaf.push_shared.Goals as goal

pub loop-leaf-preserved : goal.loop-leaf-preserved
loop-leaf-preserved c =
    let lt : c.loop-leaf.leaf-index < length c.args.leaves.now = omega arith in
    ap (λ (l : List FlatLeaf). seen l ++ seen (drop (c.loop-leaf.leaf-index + 1) c.args.leaves.now)) c.in_ok-push.ensures.items
    ∙ shared_more c.loop-leaf.into.items c.in_ok-share.field-0 c.leaf-item.result c.args.leaves.now c.loop-leaf.leaf-index lt c.leaf-item.is c.in_ok-share.ensures
    ∙ c.loop-leaf.invariant
