-- The position of a walk by single bits, in a trie whose nodes stand for two bits each.
use Rattle.std.specs.Prelude.{◌≡◌, ◌⊎◌, ◌%◌, Bool, List, [], ◌∷◌, ◌++◌, length, Some}
use Rattle.bit_trie.specs.Tries.{Trie, fork, reach}

-- a name with an even number of bits leads to `part`
pub record AtNode (whole part : Trie) (name : List Bool) : Type 0 where
  pub even : length name % 2 ≡ 0
  pub at : reach name whole ≡ Some part

-- a name with one more bit: the place is the node above, which has two halves, and the bit says which half is meant
pub record Between (whole part : Trie) (name : List Bool) : Type 0 where
  pub front : List Bool
  pub bit : Bool
  pub named : name ≡ front ++ bit ∷ []
  pub node : AtNode whole part front
  pub zero : Trie
  pub one : Trie
  pub inner : part ≡ fork zero one

-- the place `part` has this name
abbrev pub IsAt : Trie → Trie → List Bool → Type 0
IsAt whole part name = AtNode whole part name ⊎ Between whole part name
