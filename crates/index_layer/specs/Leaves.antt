-- The leaves of an index: names that tile the key space, each with the bucket of the rows under it.
use Rattle.std.specs.Prelude.{ℕ, Bool, List, [], ◌∷◌, ◌++◌, map, Option, if◌then◌else◌, ⊤}
use Rattle.std.specs.List.{list_any, find, flat_map, AllByRecursion}
use Rattle.zorder.specs.Key.{is_under}
use Rattle.zorder.specs.SameName.{same_name}
use Rattle.zorder.specs.Tile.{Tile, children}
use Rattle.bucket_versions.specs.declared.row.Row.{Row}
use Rattle.bucket_versions.specs.Rows.{Rows, IsRows}
pub use Rattle.bucket_versions.specs.Under.{AreUnder}

-- a leaf: its name, and what a clause sees of its bucket
pub record Leaf : Type 0 where
  pub name : List Bool
  pub bucket : Rows

-- the names of the leaves, in order
abbrev pub names_of : List Leaf → List (List Bool)
names_of leaves = map (λ l. l.name) leaves

-- all rows of the leaves, one leaf after the other
abbrev pub all_rows : List Leaf → List Row
all_rows leaves = flat_map (λ (l : Leaf). l.bucket.rows) leaves

-- the names tile the key space, and the rows of each leaf are in order and under its name
pub record AreLeaves (leaves : List Leaf) : Type 0 where
  pub tile : Tile (names_of leaves)
  pub rows : AllByRecursion (λ (l : Leaf). IsRows l.bucket.rows) leaves
  pub under : AllByRecursion (λ (l : Leaf). AreUnder l.name l.bucket.rows) leaves

-- one leaf for the whole key space
abbrev pub one_leaf : Rows → List Leaf
one_leaf bucket = record { name = []; bucket = bucket } ∷ []

-- whether a leaf has this name
abbrev pub has_name : List Bool → List Leaf → Bool
has_name name leaves = list_any (λ l. same_name l.name name) leaves

-- the leaf with this name
abbrev pub leaf_named : List Bool → List Leaf → Option Leaf
leaf_named name leaves = find (λ l. same_name l.name name) leaves

-- the first leaf that the key is under
abbrev pub leaf_under : ℕ → List Leaf → Option Leaf
leaf_under key leaves = find (λ l. is_under l.name key) leaves

-- the leaf, with another bucket if it has this name
abbrev pub with_bucket : List Bool → Rows → Leaf → Leaf
with_bucket name bucket l = if same_name l.name name then record { name = l.name; bucket = bucket } else l

-- the leaves, with another bucket at the leaf of this name
abbrev pub replaced : List Bool → Rows → List Leaf → List Leaf
replaced name bucket leaves = map (with_bucket name bucket) leaves

-- the leaves with these names and these buckets
abbrev pub leaves_of : List (List Bool) → List Rows → List Leaf
leaves_of [] buckets = []
leaves_of (name ∷ names) [] = []
leaves_of (name ∷ names) (b ∷ buckets) = record { name = name; bucket = b } ∷ leaves_of names buckets

-- the leaves with the leaf of this name replaced by its children, which have these buckets
abbrev pub split : ℕ → List Bool → List Rows → List Leaf → List Leaf
split w name buckets [] = []
split w name buckets (l ∷ leaves) = if same_name l.name name then leaves_of (children w name) buckets ++ leaves else l ∷ split w name buckets leaves

-- the rows of each bucket are under the name with the same index
abbrev pub EachUnder : List (List Bool) → List Rows → Type 0
EachUnder [] buckets = ⊤
EachUnder (name ∷ names) [] = ⊤
EachUnder (name ∷ names) (b ∷ buckets) = AreUnder name b.rows × EachUnder names buckets

-- the rows of each bucket are under the name of the child with the same index
abbrev pub AreAllUnder : ℕ → List Bool → List Rows → Type 0
AreAllUnder w name buckets = EachUnder (children w name) buckets
