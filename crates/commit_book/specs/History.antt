-- The invariant of the entries of a run.
use Rattle.std.specs.Prelude.{◌≡◌, ◌+◌, ◌≤◌, ◌<◌, ◌^◌, ℕ, true, length, vec_capacity}
use Rattle.plain_list.specs.History.{call_count}
use Rattle.commit_book.specs.Answers.{is_still_since}
use Rattle.commit_book.specs.BookView.{list_in}
use Rattle.commit_book.specs.Events.{Events}
use Rattle.commit_book.specs.declared.history.History.TheInside.{Inside}

abbrev pub events_of : Inside → Events
events_of h = record { entries = h.past.entries; room = h.room; kept = h.kept }

-- The list that is kept is that of the entries, and it has the capacity for the promised room. `changed` is the least
-- number of entries after which no entry may change the world.
pub record IsHistory (h : Inside) : Type 0 where
  pub list : h.list.items ≡ list_in h.kept h.past.entries
  pub capacity : h.kept ≡ true → length h.past.entries + h.room ≤ vec_capacity h.list
  pub len : h.len ≡ length h.past.entries
  pub calls : h.calls ≡ call_count h.past.entries
  pub room : h.len + h.room < 2 ^ 63
  pub changed : h.changed ≤ h.len
  pub still : (count : ℕ) → h.changed ≤ count → is_still_since count h.past.entries ≡ true
  pub moves : (count : ℕ) → is_still_since count h.past.entries ≡ true → h.changed ≤ count
