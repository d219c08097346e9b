use Rattle.std.specs.Arc.{arc_value}
use Rattle.bit_trie.proofs.RowCounts.{less-rows, more-rows}
use Rattle.bit_trie.proofs.leaf_changes.pass_there.Goals as goal

pub returns-clause-less : goal.returns-clause-less
returns-clause-less g c = less-rows c.pass-to.result c.args.from.now (arc_value c.args.leaf.now) (arc_value c.pass-to.new.bucket) c.in_order.ensures c.requires.rows.0 c.pass-to.ensures.ok c.pass-to.ensures.err

pub returns-clause-more : goal.returns-clause-more
returns-clause-more g c = more-rows c.pass-to.result c.args.to.now.change (arc_value c.args.other.now) (arc_value c.pass-to.new.other) c.pass-to.ensures.other c.pass-to.ensures.other_err
