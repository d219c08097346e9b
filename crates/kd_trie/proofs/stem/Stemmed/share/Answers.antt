use Rattle.std.proofs.Common.{rules}
use Rattle.kd_trie.proofs.stem.Stemmed.share.Goals as goal

pub returns : goal.returns
returns c = search rules
