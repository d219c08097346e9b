-- The position of a walk over the leaves of an index.
use Rattle.std.specs.Prelude.{ℕ, ◌<◌, ◌^◌, nat_le, List, [], Option, Some, None, IsTrue, ⊤}
use Rattle.std.specs.List.{filter}
use Rattle.zorder.specs.Name.{first_key}
use Rattle.zorder.specs.Tile.{tiles_from}
use Rattle.index_layer.specs.Leaves.{Leaf, names_of}

-- the leaves that begin at this key or after it
abbrev pub leaves_from : ℕ → List Leaf → List Leaf
leaves_from key leaves = filter (λ l. nat_le key (first_key l.name)) leaves

-- the leaves from a key on; None is the position after the last key
abbrev pub leaves_left : Option ℕ → List Leaf → List Leaf
leaves_left None leaves = []
leaves_left (Some key) leaves = leaves_from key leaves

-- a leaf begins at the key, and the leaves from there on tile the rest of the key space
abbrev pub IsAt : Option ℕ → List Leaf → Type 0
IsAt None leaves = ⊤
IsAt (Some key) leaves = (key < 2 ^ 64) × IsTrue (tiles_from key (names_of (leaves_from key leaves)))
