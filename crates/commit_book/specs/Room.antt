-- Whether there is room for another split, and that each split began while there was room.
use Rattle.std.specs.Prelude.{◌≡◌, ℕ, ◌||◌, nat_lt, Bool, true, false, List, ◌∷◌, ◌++◌, length, Option}
use Rattle.plain_list.specs.declared.entries.Entry.{Entry}
use Rattle.plain_list.specs.declared.entries.Entry.TheVariants.{Begin}
use Rattle.plain_list.specs.World.{World}
use Rattle.kept_log.specs.Counts.{count_after}

-- With more events than this, no split begins: in a history whose list is kept, and in one whose list isn't, where it is
-- 2 ^ 60 less 194304.
abbrev pub most_events_to_begin : Bool → ℕ
most_events_to_begin true = 4000000
most_events_to_begin false = 1152921504606652672

-- with more records than this, no split begins
abbrev pub most_cells_to_begin : ℕ
most_cells_to_begin = 16000000

-- whether the log has too many records, or the history too many events, for another split
abbrev pub has_no_room : Bool → ℕ → ℕ → Bool
has_no_room kept cells events = nat_lt most_cells_to_begin cells || nat_lt (most_events_to_begin kept) events

-- at each begin of a history from this world there was room, if the log had `first` records at its opening
abbrev pub BeginsInRoom : Bool → Option ℕ → World → List Entry → Type 0
BeginsInRoom kept first world entries =
    (before after : List Entry) (number : ℕ) (name : List Bool) → entries ≡ before ++ Begin number name ∷ after
    → has_no_room kept (count_after first world before) (length before) ≡ false
