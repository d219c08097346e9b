-- A path from the top of a trie, and the nodes next to it.
use Rattle.std.specs.Prelude.{◌≡◌, Bool, List, [], ◌∷◌, ◌++◌, map}
use Rattle.kd_trie.specs.declared.stem.Side.{Side}
use Rattle.std.specs.List.{list_all}
use Rattle.bit_trie.specs.Tries.{Trie, halves, is_bare}
use Rattle.kd_trie.specs.Nodes.{seen}

-- the bits of the path
abbrev pub way_of : List Side → List Bool
way_of sides = map (λ (s : Side). s.bit) sides

-- the trie in which the path with these steps leads to t
abbrev pub stem_over : List Side → Trie → Trie
stem_over [] t = t
stem_over (s ∷ sides) t = halves s.bit (seen s.node) (stem_over sides t)

-- the second name is longer and begins with the first
abbrev pub GoesPast : List Bool → List Bool → Type 0
GoesPast name stem = (bit : Bool) × (rest : List Bool) × (stem ≡ name ++ bit ∷ rest)

-- the step of a path that comes after this name
pub record Passing (name : List Bool) (sides : List Side) (s : Side) : Type 0 where
  pub front : List Side
  pub back : List Side
  pub is : sides ≡ front ++ s ∷ back
  pub named : name ≡ way_of front

-- whether each node next to the path is a leaf without rows
abbrev pub all_bare : List Side → Bool
all_bare sides = list_all (λ (s : Side). is_bare (seen s.node)) sides
