-- What contracts see of the entries of a run.
use Rattle.std.specs.Prelude.{ℕ, ◌-◌, Bool, List, [], ◌∷◌, ◌++◌, length}
use Rattle.plain_list.specs.declared.entries.Entry.{Entry}

-- the entries, how many more fit without taking memory, and whether the list of the entries is kept
pub record Events : Type 0 where
  pub entries : List Entry
  pub room : ℕ
  pub kept : Bool

-- the entries with one more at the end, which uses one place of the room
abbrev pub with_entry : Entry → Events → Events
with_entry entry v = record v { entries = v.entries ++ entry ∷ []; room = v.room - 1 }

-- the entries with more at the end, each of which uses one place of the room
abbrev pub with_entries : List Entry → Events → Events
with_entries more v = record v { entries = v.entries ++ more; room = v.room - length more }
