-- A trie with its stem.
use Rattle.std.specs.Prelude.{List}
use Rattle.std.specs.Arc.{arc_value}
use Rattle.kd_trie.specs.declared.stem.Side.{Side}
use Rattle.kd_trie.specs.declared.stem.Stem.{Stem}
use Rattle.kd_trie.specs.declared.stem.Stemmed.{Stemmed}
use Rattle.bit_trie.specs.Tries.{Trie}
use Rattle.kd_trie.specs.Nodes.{seen}
use Rattle.kd_trie.specs.Stems.{stem_over}

-- the steps of a stem
abbrev pub sides_of : Stem → List Side
sides_of s = (arc_value s.aside).items

-- the whole trie: the stem's steps above the root
abbrev pub whole : Stemmed → Trie
whole s = stem_over (sides_of s.stem) (seen s.root)
