-- The quarter of a node for two bits.
use Rattle.std.specs.Prelude.{ℕ, Bool, ◌-◌, ◌==◌, ◌&&◌, if◌then◌else◌}
use Rattle.std.specs.Borrow.{Lends, MutBor, Fml}
use Rattle.std.specs.Int.{bit_at}
use mathlib.Core.Bool.{beq}
use Rattle.bit_trie.specs.Tries.{is_bare}
use Rattle.quad_trie.specs.Nodes.{seen}
use Rattle.quad_trie.specs.declared.node.Node.{Node}
use Rattle.quad_trie.specs.declared.node.Quad.{Quad}
use Rattle.quad_trie.specs.contracts.node.Node as node
use Rattle.quad_trie.specs.contracts.node.Quad as quad

-- the node with another node as that quarter
abbrev pub with_node : Quad → Bool → Bool → Node → Quad
with_node q high low n = if high then (if low then record q { one_one = n } else record q { one_zero = n }) else (if low then record q { zero_one = n } else record q { zero_zero = n })

-- after the loan, the node has the last value of r as that quarter
abbrev pub LendsQuarter : MutBor Quad → Bool → Bool → MutBor Node → Fml
LendsQuarter q high low r = Lends quad.the_row node.the_row q r (with_node q.now high low)

-- whether the next two bits of two keys are the same, if the last `left` bits of each are left
abbrev pub go_together : ℕ → ℕ → ℕ → Bool
go_together left from to = beq (bit_at from (left - 1) == 1) (bit_at to (left - 1) == 1) && beq (bit_at from (left - 1 - 1) == 1) (bit_at to (left - 1 - 1) == 1)

-- whether the other three quarters are leaves without rows
abbrev pub is_lone : Quad → Bool → Bool → Bool
is_lone q high low =
    if high then (is_bare (seen q.zero_zero) && (is_bare (seen q.zero_one) && (if low then is_bare (seen q.one_zero) else is_bare (seen q.one_one))))
    else (if low then is_bare (seen q.zero_zero) && (is_bare (seen q.one_zero) && is_bare (seen q.one_one)) else is_bare (seen q.zero_one) && (is_bare (seen q.one_zero) && is_bare (seen q.one_one)))
