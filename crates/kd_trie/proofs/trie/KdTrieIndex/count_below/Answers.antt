use Rattle.std.proofs.Common.{◌∙◌, [], length, sym}
use mathlib.Core.Bool.{true≢false}
use Rattle.index_layer.specs.Leaves.{all_rows}
use Rattle.index_layer.specs.Subtree.{subtree}
use Rattle.bit_trie.specs.Tries.{leaves_under, rows_in}
use Rattle.bit_trie.proofs.TrieCounts.{rows-reached}
use Rattle.kd_trie.specs.Nodes.{seen, StandsFor}
use Rattle.kd_trie.specs.Wholes.{sides_of, whole}
use Rattle.kd_trie.proofs.Passing.{going, on-test}
use Rattle.kd_trie.proofs.Counted.{stands-for, rows-past, same-cut}
use Rattle.kd_trie.proofs.trie.KdTrieIndex.count_below.Goals as goal

here : (c : goal.Else-goes_on) → StandsFor c.args.self.now.tree.counts_hold c.args.name.now (whole c.args.self.now.tree) c.args.place.now
here c =
    let s = c.args.self.now.tree in
    stands-for s.counts_hold c.args.name.now s.stem.name (whole s) c.args.place.now (λ past. true≢false (sym (on-test c.args.name.now s.stem.name past) ∙ sym c.if-goes_on.ensures)) c.requires

pub returns-then-goes_on : goal.returns-then-goes_on
returns-then-goes_on c =
    let s = c.args.self.now.tree in
    same-cut c.count_of.result (rows_in (seen s.root)) (length (all_rows (subtree c.args.name.now (leaves_under [] (whole s))))) c.count_of.ensures
    (rows-past c.args.name.now s.stem.name (sides_of s.stem) (seen s.root) s.stem.named s.stem.bare (going c.args.name.now s.stem.name (sym c.if-goes_on.ensures)))

pub count_of-requires-else-goes_on : goal.count_of-requires-else-goes_on
count_of-requires-else-goes_on c = (here c).counted

pub returns-else-goes_on : goal.returns-else-goes_on
returns-else-goes_on c =
    let s = c.args.self.now.tree in
    let place = stands-for s.counts_hold c.args.name.now s.stem.name (whole s) c.args.place.now (λ past. true≢false (sym (on-test c.args.name.now s.stem.name past) ∙ sym c.if-goes_on.ensures)) c.requires in
    same-cut c.count_of-else-goes_on.result (rows_in (seen c.args.place.now)) (length (all_rows (subtree c.args.name.now (leaves_under [] (whole s))))) c.count_of-else-goes_on.ensures
    (rows-reached c.args.name.now (whole s) (seen c.args.place.now) place.at)
