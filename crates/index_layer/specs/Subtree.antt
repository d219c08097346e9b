-- The leaves in the subtree of a name.
use Rattle.std.specs.Prelude.{ℕ, nat_le, Bool, List}
use Rattle.std.specs.List.{filter, starts_with}
use mathlib.Core.Bool.{beq}
use Rattle.zorder.specs.Name.{first_key}
use Rattle.index_layer.specs.Leaves.{Leaf}

-- the leaves whose names begin with this name
abbrev pub subtree : List Bool → List Leaf → List Leaf
subtree name leaves = filter (λ (l : Leaf). starts_with beq l.name name) leaves

-- the leaves that begin at this key or before it
abbrev pub leaves_until : ℕ → List Leaf → List Leaf
leaves_until last leaves = filter (λ (l : Leaf). nat_le (first_key l.name) last) leaves
