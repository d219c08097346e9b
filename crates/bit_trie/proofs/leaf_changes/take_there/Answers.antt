use Rattle.std.specs.Arc.{arc_value}
use Rattle.bit_trie.proofs.RowCounts.{less-rows}
use Rattle.bit_trie.proofs.leaf_changes.take_there.Goals as goal

pub returns-clause-less : goal.returns-clause-less
returns-clause-less g c = less-rows c.take-from.result c.args.from.now.change (arc_value c.args.leaf.now) (arc_value c.take-from.new.bucket) c.in_order.ensures c.requires.present c.take-from.ensures.ok c.take-from.ensures.err
