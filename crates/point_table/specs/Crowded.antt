-- Names in the order of their first keys.
use Rattle.std.specs.Prelude.{ℕ, suc, ◌≤◌, nat_lt, ◌==◌, not, Bool, List, [], ◌∷◌, if◌then◌else◌, Option, slice_get, false, ⊤, Result, OnOk, ◌≡◌}
use Rattle.std.specs.Option.{option_map_or}
use Rattle.std.specs.List.{find, AllByRecursion}
use Rattle.zorder.specs.Name.{first_key}
use Rattle.plain_list.specs.State.{OpenSplit, is_splitting}
use Rattle.point_table.specs.declared.crowded.Mark.{Mark}

-- names, and how many more fit without taking memory
pub record Crowd : Type 0 where
  pub names : List (List Bool)
  pub room : ℕ

-- the first key of each name is at least k
abbrev pub AreFrom : ℕ → List (List Bool) → Type 0
AreFrom k names = AllByRecursion (λ (n : List Bool). k ≤ first_key n) names

-- the first keys rise strictly, so no name occurs twice
abbrev pub AreRising : List (List Bool) → Type 0
AreRising [] = ⊤
AreRising (n ∷ names) = AreFrom (suc (first_key n)) names × AreRising names

-- the first name that has no open split
abbrev pub first_free : List OpenSplit → List (List Bool) → Option (List Bool)
first_free splits names = find (λ name. not (is_splitting splits name)) names

-- the names with this one inserted in order; it replaces a name with the same first key
abbrev pub marked : List Bool → List (List Bool) → List (List Bool)
marked name [] = name ∷ []
marked name (n ∷ names) =
    if nat_lt (first_key name) (first_key n) then name ∷ n ∷ names
    else if first_key name == first_key n then name ∷ names
    else n ∷ marked name names

-- the names without the one that has the same first key as this one, if there is one
abbrev pub unmarked : List Bool → List (List Bool) → List (List Bool)
unmarked name [] = []
unmarked name (n ∷ names) =
    if nat_lt (first_key name) (first_key n) then n ∷ names
    else if first_key name == first_key n then names
    else n ∷ unmarked name names

abbrev pub remarked : Bool → List Bool → List (List Bool) → List (List Bool)
remarked crowded name names = if crowded then marked name names else unmarked name names

-- the names after each mark inserted its leaf's name or removed it, the last mark first
abbrev pub remarked_each : List Mark → List (List Bool) → List (List Bool)
remarked_each [] names = names
remarked_each (m ∷ marks) names = remarked m.crowded m.name (remarked_each marks names)

-- the index at which a name belongs: how many names at the front have lesser first keys
abbrev pub key_place : List Bool → List (List Bool) → ℕ
key_place name [] = 0
key_place name (n ∷ names) = if nat_lt (first_key n) (first_key name) then suc (key_place name names) else 0

-- whether the name at this index has this first key
abbrev pub has_key : ℕ → ℕ → List (List Bool) → Bool
has_key place key names = option_map_or (λ (n : List Bool). first_key n == key) (slice_get names place) false

-- the names are unchanged, and on Ok there is room for this many more
abbrev pub Reserves : {T E : Type 0} → ℕ → Crowd → Crowd → Result T E → Type 0
Reserves count old new result = (new.names ≡ old.names) × OnOk result (new.room ≡ count)
