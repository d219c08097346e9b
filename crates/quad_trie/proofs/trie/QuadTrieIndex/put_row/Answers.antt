use Rattle.std.proofs.Common.{false}
use Rattle.bucket_versions.specs.Rows.{after_put}
use Rattle.quad_trie.specs.Nodes.{seen}
use Rattle.bit_trie.specs.Ways.{put_under}
use Rattle.bit_trie.proofs.TrieLeaves.{short-kept, are_leaves-kept}
use Rattle.bit_trie.proofs.RowLeaves.{puts-there, rows-found, changes-made, counts-made}
use Rattle.quad_trie.proofs.trie.QuadTrieIndex.put_row.Goals as goal

pub put_row-requires-clause-absent : goal.put_row-requires-clause-absent
put_row-requires-clause-absent g c =
    let old = seen c.args.self.now.root in
    rows-found c.args.put.row.key old c.args.put.row false c.in_range.ensures c.args.self.now.short c.args.self.now.are_leaves c.requires.absent

pub invariant_of-self : goal.invariant_of-self
invariant_of-self g c =
    let old = seen c.args.self.now.root in
    let made = put_under 64 c.args.put old in
    let d = puts-there c.args.put old c.in_range.ensures c.args.self.now.short c.args.self.now.are_leaves c.requires.absent in
    record {
      short = short-kept c.put_row.new.to.ended old made (seen c.put_row.new.node) d.short c.args.self.now.short c.put_row.ensures.ok c.put_row.ensures.err;
      are_leaves = are_leaves-kept c.put_row.new.to.ended old made (seen c.put_row.new.node) d.are_leaves c.args.self.now.are_leaves c.put_row.ensures.ok c.put_row.ensures.err;
    }

pub returns-clause-ok : goal.returns-clause-ok
returns-clause-ok g c =
    let old = seen c.args.self.now.root in
    let made = put_under 64 c.args.put old in
    let d = puts-there c.args.put old c.in_range.ensures c.args.self.now.short c.args.self.now.are_leaves c.requires.absent in
    changes-made c.put_row.new.to.ended c.args.put.row.key (after_put c.args.put) old made (seen c.put_row.new.node) d c.put_row.ensures.ok

pub returns-clause-count : goal.returns-clause-count
returns-clause-count g c =
    let old = seen c.args.self.now.root in
    let made = put_under 64 c.args.put old in
    let d = puts-there c.args.put old c.in_range.ensures c.args.self.now.short c.args.self.now.are_leaves c.requires.absent in
    counts-made c.put_row.new.to.ended c.args.put.row.key made (seen c.put_row.new.node) c.in_range.ensures d.short d.are_leaves c.put_row.ensures.ok c.put_row.ensures.count
