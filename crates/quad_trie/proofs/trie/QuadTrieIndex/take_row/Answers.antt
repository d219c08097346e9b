use Rattle.std.proofs.Common.{true}
use Rattle.bucket_versions.specs.Rows.{after_gone}
use Rattle.quad_trie.specs.Nodes.{seen}
use Rattle.bit_trie.specs.Ways.{gone_under}
use Rattle.bit_trie.proofs.TrieLeaves.{short-kept, are_leaves-kept}
use Rattle.bit_trie.proofs.RowLeaves.{takes, rows-found, changes-made}
use Rattle.quad_trie.proofs.trie.QuadTrieIndex.take_row.Goals as goal

pub take_row-requires-clause-present : goal.take_row-requires-clause-present
take_row-requires-clause-present g c =
    let old = seen c.args.self.now.root in
    rows-found c.args.gone.row.key old c.args.gone.row true c.in_range.ensures c.args.self.now.short c.args.self.now.are_leaves c.requires.present

pub invariant_of-self : goal.invariant_of-self
invariant_of-self g c =
    let old = seen c.args.self.now.root in
    let made = gone_under 64 c.args.gone old in
    let d = takes c.args.gone old c.in_range.ensures c.args.self.now.short c.args.self.now.are_leaves in
    record {
      short = short-kept c.take_row.new.from.ended old made (seen c.take_row.new.node) d.short c.args.self.now.short c.take_row.ensures.ok c.take_row.ensures.err;
      are_leaves = are_leaves-kept c.take_row.new.from.ended old made (seen c.take_row.new.node) d.are_leaves c.args.self.now.are_leaves c.take_row.ensures.ok c.take_row.ensures.err;
    }

pub returns-clause-ok : goal.returns-clause-ok
returns-clause-ok g c =
    let old = seen c.args.self.now.root in
    let made = gone_under 64 c.args.gone old in
    let d = takes c.args.gone old c.in_range.ensures c.args.self.now.short c.args.self.now.are_leaves in
    changes-made c.take_row.new.from.ended c.args.gone.row.key (after_gone c.args.gone) old made (seen c.take_row.new.node) d c.take_row.ensures.ok
