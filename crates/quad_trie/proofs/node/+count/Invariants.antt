use Rattle.bit_trie.specs.Tries.{height}
use Rattle.quad_trie.specs.Nodes.{seen}
use Rattle.quad_trie.proofs.node.+count.Given as goal

abbrev pub decreases-count : goal.decreases-count
decreases-count l = height (seen l.node.now)
