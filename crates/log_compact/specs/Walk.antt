-- The inner names of leaves, each at the first leaf under it.
use Rattle.std.specs.Prelude.{ℕ, ◌+◌, ◌≤◌, ◌%◌, Bool, ◌&&◌, List, [], ◌∷◌, ◌++◌, length, drop, if◌then◌else◌, ◌==◌}
use Rattle.std.specs.List.{filter, flat_map, AllByRecursion}
use Rattle.zorder.specs.Name.{first_key}
use Rattle.cell_format.specs.declared.cell.Cell.{Cell}
use Rattle.cell_format.specs.declared.cell.Cell.TheVariants.{Install}
use Rattle.plain_list.specs.declared.world.Member.{Member}
use Rattle.log_compact.specs.Fresh.{proper_prefixes, split_cells, put_cells}

-- Whether a prefix of a leaf may be split by `w` bits, and the leaf is the first one under it.
abbrev pub is_first : ℕ → List Bool → List Bool → Bool
is_first w leaf name = (length name % w == 0) && (first_key name == first_key leaf)

-- The inner names whose first leaf this is.
abbrev pub new_names : ℕ → List Bool → List (List Bool)
new_names w leaf = filter (is_first w leaf) (proper_prefixes leaf)

abbrev pub all_new_names : ℕ → List (List Bool) → List (List Bool)
all_new_names w leaves = flat_map (new_names w) leaves

-- Each leaf has at most as many bits as a key.
abbrev pub AreShort : List (List Bool) → Type 0
AreShort leaves = AllByRecursion (λ (leaf : List Bool). length leaf ≤ 64) leaves

-- The inner names whose first leaf this is and that have at least `least` bits.
abbrev pub left_at : ℕ → List Bool → ℕ → List (List Bool)
left_at w leaf least = filter (is_first w leaf) (drop least (proper_prefixes leaf))

-- The inner names that are left, if the walk is at the first of these leaves, at names of `least` bits.
abbrev pub names_left : ℕ → List (List Bool) → ℕ → List (List Bool)
names_left w [] least = []
names_left w (leaf ∷ leaves) least = left_at w leaf least ++ all_new_names w leaves

-- The cells that are left, if `begun` is the number of the last begin: its install, if that is due, then the cells of
-- the names that are left, then the puts of the objects that are left.
abbrev pub cells_left : ℕ → Bool → List (List Bool) → List Member → List Cell
cells_left begun due names members = (if due then Install begun ∷ [] else []) ++ split_cells (begun + 1) names ++ put_cells members
