use Rattle.std.proofs.Common.{true, false}
use Rattle.index_layer.proofs.Places.{begins-either, halves-begin}
use Rattle.flat_index.specs.Seen.{seen}
use Rattle.flat_index.proofs.flat.FlatIndexIndex.below.Goals as goal

pub returns-in-Inner : goal.returns-in-Inner
returns-in-Inner c =
    let leaves = seen c.args.self.now.leaves.items in
    let tile = c.args.self.now.are_leaves.tile in
    let name = c.args.name.now in
    (c.in-Inner.ensures.0, c.in-Inner.ensures.1, halves-begin leaves tile name false c.in-Inner.ensures.0, halves-begin leaves tile name true c.in-Inner.ensures.0)

pub unreachable-requires : goal.unreachable-requires
unreachable-requires c = begins-either (seen c.args.self.now.leaves.items) c.args.self.now.are_leaves.tile c.args.name.now c.requires c.in-Outside.ensures.0 c.in-Outside.ensures.1
