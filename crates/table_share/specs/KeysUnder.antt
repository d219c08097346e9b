-- Rows under the names of their leaves.
use Rattle.std.specs.Prelude.{◌≡◌, ◌<◌, ◌^◌, Bool, true, List}
use Rattle.std.specs.List.{AllByRecursion}
use Rattle.zorder.specs.Key.{is_under}
use Rattle.bucket_versions.specs.declared.row.Row.{Row}
use Rattle.index_layer.specs.Leaves.{Leaf}

-- each row's key has 64 bits and is under the name
abbrev pub AreKeysUnder : List Bool → List Row → Type 0
AreKeysUnder name rows = AllByRecursion (λ (r : Row). (r.key < 2 ^ 64) × (is_under name r.key ≡ true)) rows

-- the rows of each leaf are under the leaf's name
abbrev pub AreAllKeysUnder : List Leaf → Type 0
AreAllKeysUnder leaves = AllByRecursion (λ (l : Leaf). AreKeysUnder l.name l.bucket.rows) leaves
