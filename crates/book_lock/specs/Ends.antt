-- Begins and ends of splits in a history, and which pass may end which split.
use Rattle.std.specs.Prelude.{◌≡◌, ℕ, List, [], ◌∷◌, length, Bool, Some, slice_get, slice_index_or, ◌⊎◌, if◌then◌else◌, nat_lt}
use Rattle.plain_list.specs.declared.entries.Entry.{Entry}
use Rattle.plain_list.specs.declared.entries.Entry.TheVariants.{Begin, Install, Abandon}
use Rattle.book_lock.specs.Own.{Owns}

-- The entry at this position begins a split with this number.
abbrev pub IsBegin : List Entry → ℕ → ℕ → Type 0
IsBegin log at n = (name : List Bool) × (slice_get log at ≡ Some (Begin n name))

-- The entry ends the split with this number.
abbrev pub EndsSplit : Entry → ℕ → Type 0
EndsSplit e n = (e ≡ Install n) ⊎ (e ≡ Abandon n)

-- The entry at this position ends the split with this number.
abbrev pub IsEnd : List Entry → ℕ → ℕ → Type 0
IsEnd log at n = (e : Entry) × (slice_get log at ≡ Some e) × EndsSplit e n

-- If exactly one begin of a number was seen, and it is the pass's own, each end of this number that was seen is its own
-- too.
abbrev pub OwnsEnds : List Entry → List ℕ → Type 0
OwnsEnds seen own = (n q : ℕ) → IsBegin seen q n → ((r : ℕ) → IsBegin seen r n → r ≡ q) → Owns own q → (p : ℕ) → IsEnd seen p n → Owns own p

-- A pass that owns a begin of a number may note an end of that number.
abbrev pub MayNote : List Entry → List ℕ → Entry → Type 0
MayNote seen own e = (n : ℕ) → EndsSplit e n → (q : ℕ) × Owns own q × IsBegin seen q n

-- The longer of two prefixes of one history.
abbrev pub longer : List Entry → List Entry → List Entry
longer xs ys = if nat_lt (length xs) (length ys) then ys else xs

abbrev pub shorter : List Entry → List Entry → List Entry
shorter xs ys = if nat_lt (length xs) (length ys) then xs else ys

-- The first entry of a history after those that were seen.
abbrev pub next_of : List Entry → List Entry → Entry
next_of seen log = slice_index_or log (length seen) (Install 0)
