use Rattle.std.proofs.Common.{◌∙◌, ℕ, [], sym, ap}
use Rattle.std.specs.Arc.{arc_value}
use Rattle.index_layer.specs.Leaves.{leaf_under}
use Rattle.index_layer.proofs.LeafChanges.{leaf_at}
use Rattle.index_layer.proofs.LeafNames.{has_name-first}
use Rattle.bit_trie.specs.Tries.{leaves_under}
use Rattle.quad_trie.specs.Nodes.{seen}
use Rattle.quad_trie.proofs.trie.QuadTrie.has_leaf.Goals as goal

pub returns : goal.returns
returns c =
    let leaves = leaves_under [] (seen c.args.self.now.root) in
    let found = ap (λ (k : ℕ). leaf_under k leaves) (sym c.bits.ensures) ∙ c.leaf_of-found.ensures in
    c.eq.ensures ∙ sym (has_name-first leaves c.args.self.now.are_leaves.tile c.args.name.now (leaf_at c.leaf_of-found.result.0 (arc_value c.leaf_of-found.result.1.now)) found)
