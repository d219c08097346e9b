use Rattle.std.proofs.Common.{◌≡◌, ◌∙◌, [], ◌∷◌, map, sym}
use Rattle.std.specs.Arc.{arc_value}
use Rattle.zorder.specs.Bits.{low_bits}
use Rattle.bucket_versions.specs.Rows.{Rows}
use Rattle.index_layer.specs.Leaves.{split}
use Rattle.index_layer.proofs.Children.{two_items}
use Rattle.bit_trie.specs.Tries.{graft, leaves_under}
use Rattle.bit_trie.proofs.TrieLeaves.{short-kept, are_leaves-kept, leaves-made}
use Rattle.kd_trie.specs.Nodes.{twins}
use Rattle.kd_trie.specs.Wholes.{whole}
use Rattle.kd_trie.proofs.Twins.{divides-twins}
use Rattle.kd_trie.proofs.trie.KdTrieIndex.divide.Goals as goal

pub invariant_of-self : goal.invariant_of-self
invariant_of-self g c =
    let old = whole c.args.self.now.tree in
    let a : Rows = arc_value c.in_ok-zero.zero in
    let b : Rows = arc_value c.in_ok-one.one in
    let buckets : map arc_value c.args.children.now ≡ a ∷ b ∷ [] =
    two_items arc_value c.args.children.now c.index-children-0.result c.index-children-1.result c.requires.children.0 c.index-children-0.is c.index-children-1.is
    ∙ (λ i. sym c.in_ok-zero.ensures i ∷ sym c.in_ok-one.ensures i ∷ []) in
    let made = graft (low_bits 64 c.bits.result) (twins a b) old in
    let d = divides-twins c.args.name.now c.bits.result a b (map arc_value c.args.children.now) old buckets c.bits.ensures c.args.self.now.short c.args.self.now.are_leaves c.in_order.ensures c.in_order-2.ensures c.requires.short c.requires.children.1 c.requires.leaf in
    record {
      short = short-kept c.divide.result old made (whole c.divide.new.self) d.short c.args.self.now.short c.divide.ensures.ok c.divide.ensures.err;
      are_leaves = are_leaves-kept c.divide.result old made (whole c.divide.new.self) d.are_leaves c.args.self.now.are_leaves c.divide.ensures.ok c.divide.ensures.err;
    }

pub returns-clause-ok : goal.returns-clause-ok
returns-clause-ok g c =
    let old = whole c.args.self.now.tree in
    let a : Rows = arc_value c.in_ok-zero.zero in
    let b : Rows = arc_value c.in_ok-one.one in
    let buckets : map arc_value c.args.children.now ≡ a ∷ b ∷ [] =
    two_items arc_value c.args.children.now c.index-children-0.result c.index-children-1.result c.requires.children.0 c.index-children-0.is c.index-children-1.is
    ∙ (λ i. sym c.in_ok-zero.ensures i ∷ sym c.in_ok-one.ensures i ∷ []) in
    let made = graft (low_bits 64 c.bits.result) (twins a b) old in
    let d = divides-twins c.args.name.now c.bits.result a b (map arc_value c.args.children.now) old buckets c.bits.ensures c.args.self.now.short c.args.self.now.are_leaves c.in_order.ensures c.in_order-2.ensures c.requires.short c.requires.children.1 c.requires.leaf in
    leaves-made c.divide.result made (whole c.divide.new.self) (split 1 c.args.name.now (map arc_value c.args.children.now) (leaves_under [] old)) d.leaves c.divide.ensures.ok
