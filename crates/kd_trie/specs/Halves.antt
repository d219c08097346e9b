-- The half of a pair for a bit.
use Rattle.std.specs.Prelude.{Bool, if◌then◌else◌}
use Rattle.std.specs.Borrow.{Lends, MutBor, Fml}
use Rattle.kd_trie.specs.declared.node.Node.{Node}
use Rattle.kd_trie.specs.declared.node.Pair.{Pair}
use Rattle.bit_trie.specs.Tries.{Trie}
use Rattle.kd_trie.specs.Nodes.{seen, is_counted}
use Rattle.kd_trie.specs.contracts.node.Node as node
use Rattle.kd_trie.specs.contracts.node.Pair as pair

-- the trie of that half
abbrev pub half_of : Pair → Bool → Trie
half_of p bit = if bit then seen p.one else seen p.zero

-- whether all pairs of that half count the rows below them
abbrev pub half_counts : Pair → Bool → Bool
half_counts p bit = if bit then is_counted p.one else is_counted p.zero

-- the pair with another node as that half
abbrev pub with_half : Pair → Bool → Node → Pair
with_half p bit n = if bit then record p { one = n } else record p { zero = n }

-- after the loan, the pair has the last value of r as that half
abbrev pub LendsHalf : MutBor Pair → Bool → MutBor Node → Fml
LendsHalf p bit r = Lends pair.the_row node.the_row p r (with_half p.now bit)
