-- What a node represents.
use Rattle.std.specs.Prelude.{◌≡◌, ◌+◌, ◌==◌, ◌&&◌, Bool, true, List, Some}
use Rattle.bucket_versions.specs.Rows.{Rows}
use Rattle.kd_trie.specs.declared.node.Node.{Node, Leaf, Inner'}
use Rattle.kd_trie.specs.declared.node.Pair.{Pair}
use Rattle.bit_trie.specs.Tries.{Trie, tip, fork, rows_in, reach}

abbrev pub seen : Node → Trie
seen (Leaf b) = tip b.value
seen (Inner' p zero one count) = fork (seen zero) (seen one)

-- whether this node and all pairs below it count the rows below them
abbrev pub is_counted : Node → Bool
is_counted (Leaf b) = true
is_counted (Inner' p zero one count) = (count == rows_in (seen zero) + rows_in (seen one)) && (is_counted zero && is_counted one)

-- the same for a pair
abbrev pub counts : Pair → Bool
counts p = (p.count == rows_in (seen p.zero) + rows_in (seen p.one)) && (is_counted p.zero && is_counted p.one)

-- a copy of a pair represents the same tries and has the same counts
pub record Copies (pair copy : Pair) : Type 0 where
  pub zero : seen copy.zero ≡ seen pair.zero
  pub one : seen copy.one ≡ seen pair.one
  pub counts : counts copy ≡ counts pair

-- a trie of two leaves
abbrev pub twins : Rows → Rows → Trie
twins a b = fork (tip a) (tip b)

-- a name leads to what a node represents; the node's counts are right if `hold` is true
pub record StandsFor (hold : Bool) (name : List Bool) (t : Trie) (n : Node) : Type 0 where
  pub at : reach name t ≡ Some (seen n)
  pub counted : hold ≡ true → is_counted n ≡ true
