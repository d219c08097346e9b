use Rattle.std.proofs.Common.{[]}
use Rattle.kd_trie.specs.Nodes.{seen}
use Rattle.kd_trie.specs.Wholes.{sides_of, whole}
use Rattle.kd_trie.proofs.Passing.{top-at}
use Rattle.kd_trie.proofs.Counted.{with-count}
use Rattle.kd_trie.proofs.trie.KdTrieIndex.top.Goals as goal

pub returns : goal.returns
returns c =
    let s = c.args.self.now.tree in
    with-count s.counts_hold [] s.stem.name (whole s) s.root (top-at s.stem.name (sides_of s.stem) (seen s.root) s.stem.named) s.counted
