use Rattle.std.specs.Arc.{arc_value}
use Rattle.bit_trie.proofs.RowCounts.{more-rows}
use Rattle.bit_trie.proofs.leaf_changes.put_there.Goals as goal

pub returns-clause-more : goal.returns-clause-more
returns-clause-more g c = more-rows c.put-to.result c.args.to.now.change (arc_value c.args.leaf.now) (arc_value c.put-to.new.bucket) c.put-to.ensures.ok c.put-to.ensures.err
