use Rattle.std.specs.Arc.{arc_value}
use Rattle.quad_trie.specs.Nodes.{seen}
use Rattle.bit_trie.proofs.TrieLeaves.{leaf-named}
use Rattle.quad_trie.proofs.trie.QuadTrieIndex.leaf_of.Goals as goal

pub returns : goal.returns
returns c =
    leaf-named c.args.key c.leaf_of-left.result.0 (arc_value c.leaf_of-left.result.1.now) (seen c.args.self.now.root) c.first_bits.result c.args.self.now.short c.args.self.now.are_leaves.tile c.ranges.key.fits
    c.leaf_of-left.ensures.bucket c.leaf_of-left.ensures.left c.first_bits.ensures
