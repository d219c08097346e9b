-- The leaves that have more rows than the size, and bits left to split them.
use Rattle.std.specs.Prelude.{◌≡◌, Some, ℕ, ◌+◌, nat_le, nat_lt, Bool, ◌==◌, ◌&&◌, List, [], ◌∷◌, length, if◌then◌else◌}
use Rattle.zorder.specs.Key.{is_under}
use Rattle.index_layer.specs.Leaves.{Leaf, leaf_under}
use Rattle.point_table.specs.Crowded.{marked, remarked}

-- whether a leaf is to be split: it has more rows than the size, and its name has at least w bits left of 64
abbrev pub is_crowded : ℕ → ℕ → Leaf → Bool
is_crowded w size l = nat_lt size (length l.bucket.rows) && nat_le (length l.name + w) 64

-- the names of the leaves that are to be split, in order
abbrev pub crowded_of : ℕ → ℕ → List Leaf → List (List Bool)
crowded_of w size [] = []
crowded_of w size (l ∷ leaves) = if is_crowded w size l then l.name ∷ crowded_of w size leaves else crowded_of w size leaves

-- the names after inserting those of the leaves that are to be split, the last leaf first
abbrev pub marked_later : ℕ → ℕ → List Leaf → List (List Bool) → List (List Bool)
marked_later w size [] names = names
marked_later w size (l ∷ leaves) names = if is_crowded w size l then marked l.name (marked_later w size leaves names) else marked_later w size leaves names

-- the names with that of a leaf inserted if the leaf is to be split, and removed if not
abbrev pub mark_under : ℕ → ℕ → Leaf → List (List Bool) → List (List Bool)
mark_under w size l names = remarked (is_crowded w size l) l.name names

-- the names after a row left a leaf: an empty list stays empty, since a leaf with fewer rows is not crowded either
abbrev pub left_under : ℕ → ℕ → Leaf → List (List Bool) → List (List Bool)
left_under w size l names = if length names == 0 then names else mark_under w size l names

-- the names after a row moved from leaf l to leaf m; if the key that it left is under m, both are one leaf
abbrev pub marked_two : ℕ → ℕ → ℕ → Leaf → Leaf → List (List Bool) → List (List Bool)
marked_two w size from l m names = mark_under w size m (if is_under m.name from then names else left_under w size l names)

-- the names are those that a mark of the leaf of this key gives
abbrev pub MarksAt : ℕ → List Leaf → (Leaf → List (List Bool)) → List (List Bool) → Type 0
MarksAt key leaves mark new = (l : Leaf) → leaf_under key leaves ≡ Some l → new ≡ mark l

-- the names are those after a row moved from the leaf of one key to the leaf of another
abbrev pub MarksTwo : ℕ → ℕ → ℕ → ℕ → List Leaf → List (List Bool) → List (List Bool) → Type 0
MarksTwo w size from to leaves old new = (l m : Leaf) → leaf_under from leaves ≡ Some l → leaf_under to leaves ≡ Some m → new ≡ marked_two w size from l m old
