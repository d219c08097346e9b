use Rattle.std.proofs.Common.{[]}
use Rattle.zorder.specs.Bits.{low_bits}
use Rattle.std.specs.Arc.{arc_value}
use Rattle.index_layer.specs.Leaves.{replaced}
use Rattle.bit_trie.specs.Tries.{leaves_under, tip, graft}
use Rattle.quad_trie.specs.Nodes.{seen}
use Rattle.bit_trie.proofs.TrieLeaves.{differs-put, short-kept, are_leaves-kept, leaves-made}
use Rattle.quad_trie.proofs.trie.QuadTrieIndex.replace.Goals as goal

pub invariant_of-self : goal.invariant_of-self
invariant_of-self g c =
    let old = seen c.args.self.now.root in
    let made = graft (low_bits 64 c.bits.result) (tip (arc_value c.args.bucket)) old in
    let d = differs-put c.args.name.now c.bits.result (arc_value c.args.bucket) old c.bits.ensures c.args.self.now.short c.args.self.now.are_leaves c.in_order.ensures c.requires.under c.requires.leaf in
    record {
      short = short-kept c.graft.result old made (seen c.graft.new.node) d.short c.args.self.now.short c.graft.ensures.ok c.graft.ensures.err;
      are_leaves = are_leaves-kept c.graft.result old made (seen c.graft.new.node) d.are_leaves c.args.self.now.are_leaves c.graft.ensures.ok c.graft.ensures.err;
    }

pub returns-clause-ok : goal.returns-clause-ok
returns-clause-ok g c =
    let old = seen c.args.self.now.root in
    let made = graft (low_bits 64 c.bits.result) (tip (arc_value c.args.bucket)) old in
    let d = differs-put c.args.name.now c.bits.result (arc_value c.args.bucket) old c.bits.ensures c.args.self.now.short c.args.self.now.are_leaves c.in_order.ensures c.requires.under c.requires.leaf in
    leaves-made c.graft.result made (seen c.graft.new.node) (replaced c.args.name.now (arc_value c.args.bucket) (leaves_under [] (seen c.args.self.now.root))) d.leaves c.graft.ensures.ok
