-- What a node of four children represents: a binary trie two bits deep.
use Rattle.std.specs.Prelude.{Bool, if◌then◌else◌}
use Rattle.bucket_versions.specs.Rows.{Rows}
use Rattle.quad_trie.specs.declared.node.Node.{Node, Leaf, Inner'}
use Rattle.quad_trie.specs.declared.node.Quad.{Quad}
use Rattle.bit_trie.specs.Tries.{Trie, tip, fork}

-- a trie with these four tries for the bits 00, 01, 10 and 11
abbrev pub quads : Trie → Trie → Trie → Trie → Trie
quads a b c d = fork (fork a b) (fork c d)

abbrev pub seen : Node → Trie
seen (Leaf b) = tip b.value
seen (Inner' q a b c d) = quads (seen a) (seen b) (seen c) (seen d)

-- the four children as one trie
abbrev pub four : Quad → Trie
four q = quads (seen q.zero_zero) (seen q.zero_one) (seen q.one_zero) (seen q.one_one)

-- a trie of four leaves
abbrev pub fours : Rows → Rows → Rows → Rows → Trie
fours a b c d = quads (tip a) (tip b) (tip c) (tip d)

-- the trie for two bits
abbrev pub quarter_of : Quad → Bool → Bool → Trie
quarter_of q high low = if high then (if low then seen q.one_one else seen q.one_zero) else (if low then seen q.zero_one else seen q.zero_zero)

-- the trie of a node with another trie for two bits
abbrev pub with_quarter : Quad → Bool → Bool → Trie → Trie
with_quarter q high low t =
    if high then (if low then quads (seen q.zero_zero) (seen q.zero_one) (seen q.one_zero) t else quads (seen q.zero_zero) (seen q.zero_one) t (seen q.one_one))
    else (if low then quads (seen q.zero_zero) t (seen q.one_zero) (seen q.one_one) else quads t (seen q.zero_one) (seen q.one_zero) (seen q.one_one))
