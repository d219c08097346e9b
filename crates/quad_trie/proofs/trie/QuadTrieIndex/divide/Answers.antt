use Rattle.std.proofs.Common.{◌≡◌, ◌∙◌, [], ◌∷◌, map, sym, subst, OnOk}
use Rattle.std.specs.Arc.{arc_value}
use Rattle.zorder.specs.Bits.{low_bits}
use Rattle.bucket_versions.specs.Rows.{Rows}
use Rattle.index_layer.specs.Leaves.{split}
use Rattle.index_layer.proofs.Children.{four_items}
use Rattle.bit_trie.specs.Tries.{Trie, leaves_under, graft}
use Rattle.bit_trie.proofs.TrieLeaves.{short-kept, are_leaves-kept, leaves-made}
use Rattle.quad_trie.specs.Nodes.{seen, fours}
use Rattle.quad_trie.proofs.Fours.{divides-fours}
use Rattle.quad_trie.proofs.trie.QuadTrieIndex.divide.Goals as goal

pub invariant_of-self : goal.invariant_of-self
invariant_of-self g c =
    let old = seen c.args.self.now.root in
    let a : Rows = arc_value c.in_ok-first.first in
    let b : Rows = arc_value c.in_ok-second.second in
    let e : Rows = arc_value c.in_ok-third.third in
    let f : Rows = arc_value c.in_ok-fourth.fourth in
    let buckets : map arc_value c.args.children.now ≡ a ∷ b ∷ e ∷ f ∷ [] =
    four_items arc_value c.args.children.now c.index-children-0.result c.index-children-1.result c.index-children-2.result c.index-children-3.result c.requires.children.0 c.index-children-0.is c.index-children-1.is c.index-children-2.is c.index-children-3.is
    ∙ (λ i. sym c.in_ok-first.ensures i ∷ sym c.in_ok-second.ensures i ∷ sym c.in_ok-third.ensures i ∷ sym c.in_ok-fourth.ensures i ∷ []) in
    let made = graft (low_bits 64 c.bits.result) (fours a b e f) old in
    let d = divides-fours c.args.name.now c.bits.result a b e f (map arc_value c.args.children.now) old buckets c.bits.ensures c.args.self.now.short c.args.self.now.are_leaves c.in_order.ensures c.in_order-2.ensures c.in_order-3.ensures c.in_order-4.ensures c.requires.short c.requires.children.1 c.requires.leaf in
    let ok = subst (λ (p : Trie). OnOk c.graft.result (seen c.graft.new.node ≡ graft (low_bits 64 c.bits.result) p old)) c.in_ok-part.ensures c.graft.ensures.ok in
    record {
      short = short-kept c.graft.result old made (seen c.graft.new.node) d.short c.args.self.now.short ok c.graft.ensures.err;
      are_leaves = are_leaves-kept c.graft.result old made (seen c.graft.new.node) d.are_leaves c.args.self.now.are_leaves ok c.graft.ensures.err;
    }

pub returns-clause-ok : goal.returns-clause-ok
returns-clause-ok g c =
    let old = seen c.args.self.now.root in
    let a : Rows = arc_value c.in_ok-first.first in
    let b : Rows = arc_value c.in_ok-second.second in
    let e : Rows = arc_value c.in_ok-third.third in
    let f : Rows = arc_value c.in_ok-fourth.fourth in
    let buckets : map arc_value c.args.children.now ≡ a ∷ b ∷ e ∷ f ∷ [] =
    four_items arc_value c.args.children.now c.index-children-0.result c.index-children-1.result c.index-children-2.result c.index-children-3.result c.requires.children.0 c.index-children-0.is c.index-children-1.is c.index-children-2.is c.index-children-3.is
    ∙ (λ i. sym c.in_ok-first.ensures i ∷ sym c.in_ok-second.ensures i ∷ sym c.in_ok-third.ensures i ∷ sym c.in_ok-fourth.ensures i ∷ []) in
    let made = graft (low_bits 64 c.bits.result) (fours a b e f) old in
    let d = divides-fours c.args.name.now c.bits.result a b e f (map arc_value c.args.children.now) old buckets c.bits.ensures c.args.self.now.short c.args.self.now.are_leaves c.in_order.ensures c.in_order-2.ensures c.in_order-3.ensures c.in_order-4.ensures c.requires.short c.requires.children.1 c.requires.leaf in
    let ok = subst (λ (p : Trie). OnOk c.graft.result (seen c.graft.new.node ≡ graft (low_bits 64 c.bits.result) p old)) c.in_ok-part.ensures c.graft.ensures.ok in
    leaves-made c.graft.result made (seen c.graft.new.node) (split 2 c.args.name.now (map arc_value c.args.children.now) (leaves_under [] old)) d.leaves ok
