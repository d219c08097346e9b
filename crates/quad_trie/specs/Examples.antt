-- A split of the whole space into four leaves, computed.
use Rattle.std.specs.Prelude.{◌≡◌, true, false, [], ◌∷◌}
use Rattle.std.proofs.Common.{refl}
use Rattle.bucket_versions.specs.Rows.{Rows}
use Rattle.index_layer.specs.Leaves.{split, names_of}
use Rattle.bit_trie.specs.Tries.{tip, graft, leaves_under}
use Rattle.quad_trie.specs.Nodes.{fours}

abbrev no_rows : Rows
no_rows = record { base = []; rows = [] }

-- the children of the empty name are 00, 01, 10 and 11
names_after : names_of (leaves_under [] (graft [] (fours no_rows no_rows no_rows no_rows) (tip no_rows))) ≡ (false ∷ false ∷ []) ∷ (false ∷ true ∷ []) ∷ (true ∷ false ∷ []) ∷ (true ∷ true ∷ []) ∷ []
names_after = refl

-- the leaves are those of a split into four
leaves_after : leaves_under [] (fours no_rows no_rows no_rows no_rows) ≡ split 2 [] (no_rows ∷ no_rows ∷ no_rows ∷ no_rows ∷ []) (leaves_under [] (tip no_rows))
leaves_after = refl
