use Rattle.quad_trie.specs.Nodes.{seen}
use Rattle.bit_trie.specs.Ways.{put_under, gone_under}
use Rattle.bit_trie.proofs.TrieLeaves.{short-kept, are_leaves-kept}
use Rattle.bit_trie.proofs.RowLeaves.{shifts, moves-made, counts-made}
use Rattle.quad_trie.proofs.trie.QuadTrieIndex.move_row.Goals as goal

pub shift_row-requires-clause-rows : goal.shift_row-requires-clause-rows
shift_row-requires-clause-rows g c =
    let old = seen c.args.self.now.root in
    let d = shifts c.args.from c.args.to old c.in_range.ensures c.in_range-2.ensures c.args.self.now.short c.args.self.now.are_leaves c.requires.present c.requires.absent in
    d.may

pub invariant_of-self : goal.invariant_of-self
invariant_of-self g c =
    let old = seen c.args.self.now.root in
    let twice = put_under 64 c.args.to (gone_under 64 c.args.from old) in
    let d = shifts c.args.from c.args.to old c.in_range.ensures c.in_range-2.ensures c.args.self.now.short c.args.self.now.are_leaves c.requires.present c.requires.absent in
    record {
      short = short-kept c.shift_row.new.to.ended old twice (seen c.shift_row.new.node) d.comes.short c.args.self.now.short c.shift_row.ensures.ok c.shift_row.ensures.err;
      are_leaves = are_leaves-kept c.shift_row.new.to.ended old twice (seen c.shift_row.new.node) d.comes.are_leaves c.args.self.now.are_leaves c.shift_row.ensures.ok c.shift_row.ensures.err;
    }

pub returns-clause-ok : goal.returns-clause-ok
returns-clause-ok g c =
    let old = seen c.args.self.now.root in
    let d = shifts c.args.from c.args.to old c.in_range.ensures c.in_range-2.ensures c.args.self.now.short c.args.self.now.are_leaves c.requires.present c.requires.absent in
    moves-made c.shift_row.new.to.ended c.args.from c.args.to old (seen c.shift_row.new.node) d c.shift_row.ensures.ok

pub returns-clause-count : goal.returns-clause-count
returns-clause-count g c =
    let old = seen c.args.self.now.root in
    let twice = put_under 64 c.args.to (gone_under 64 c.args.from old) in
    let d = shifts c.args.from c.args.to old c.in_range.ensures c.in_range-2.ensures c.args.self.now.short c.args.self.now.are_leaves c.requires.present c.requires.absent in
    counts-made c.shift_row.new.to.ended c.args.to.row.key twice (seen c.shift_row.new.node) c.in_range-2.ensures d.comes.short d.comes.are_leaves c.shift_row.ensures.ok c.shift_row.ensures.count
