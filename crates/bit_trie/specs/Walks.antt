-- Walks down a trie that skip no row.
use Rattle.std.specs.Prelude.{◌≡◌, ℕ, Bool, false, List, [], ◌++◌, Some}
use Rattle.std.specs.List.{starts_with, AllByRecursion}
use mathlib.Core.Bool.{beq}
use Rattle.zorder.specs.Bits.{low_bits}
use Rattle.index_layer.specs.Leaves.{Leaf}
use Rattle.bit_trie.specs.Tries.{Trie, leaves_under, reach}

-- the last bits of two keys begin with the same path, which leads to u and leaves `rest` bits of each
pub record Agrees (from to left rest : ℕ) (t u : Trie) : Type 0 where
  pub path : List Bool
  pub from_is : low_bits left from ≡ path ++ low_bits rest from
  pub to_is : low_bits left to ≡ path ++ low_bits rest to
  pub at : reach path t ≡ Some u

-- leaves whose names don't begin with this name have no rows
abbrev pub AreBareBeside : List Bool → List Leaf → Type 0
AreBareBeside below leaves = AllByRecursion (λ (l : Leaf). starts_with beq l.name below ≡ false → l.bucket.rows ≡ []) leaves

-- a path from one trie to a trie below it that has all its rows
pub record Narrows (name below : List Bool) (t u : Trie) : Type 0 where
  pub path : List Bool
  pub named : below ≡ name ++ path
  pub at : reach path t ≡ Some u
  pub bare : AreBareBeside below (leaves_under name t)
