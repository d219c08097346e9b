use Rattle.std.specs.Arc.{arc_value}
use Rattle.bit_trie.proofs.RowCounts.{same-rows}
use Rattle.bit_trie.proofs.leaf_changes.shift_there.Goals as goal

pub returns-clause-same : goal.returns-clause-same
returns-clause-same g c = same-rows c.shift-to.result c.args.from.now c.args.to.now.change (arc_value c.args.leaf.now) (arc_value c.shift-to.new.bucket) c.in_order.ensures c.requires.present c.shift-to.ensures.ok c.shift-to.ensures.err
