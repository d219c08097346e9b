-- A map from the numbers of splits to their names, seen as the list of open splits.
use Rattle.std.specs.Prelude.{ℕ, ◌<◌, Bool, not, ◌&&◌, ◌==◌, List, [], ◌∷◌, map, ⊤}
use Rattle.std.specs.List.{filter}
use Rattle.zorder.specs.SameName.{same_name}
use Rattle.plain_list.specs.State.{OpenSplit}

-- An entry as an open split.
abbrev pub split_of : ℕ × List Bool → OpenSplit
split_of e = record { number = e.0; name = e.1 }

abbrev pub splits_of : List (ℕ × List Bool) → List OpenSplit
splits_of entries = map split_of entries

-- Each number is above `n`.
abbrev pub AreAbove : ℕ → List OpenSplit → Type 0
AreAbove n [] = ⊤
AreAbove n (s ∷ splits) = (n < s.number) × AreAbove n splits

-- Each number is below `n`.
abbrev pub AreBelow : ℕ → List OpenSplit → Type 0
AreBelow n [] = ⊤
AreBelow n (s ∷ splits) = (s.number < n) × AreBelow n splits

-- The numbers rise.
abbrev pub IsRisingSplits : List OpenSplit → Type 0
IsRisingSplits [] = ⊤
IsRisingSplits (s ∷ splits) = AreAbove s.number splits × IsRisingSplits splits

-- The splits without the one that has this number and this name.
abbrev pub without_split : ℕ → List Bool → List OpenSplit → List OpenSplit
without_split number name splits = filter (λ s. not ((s.number == number) && same_name s.name name)) splits
