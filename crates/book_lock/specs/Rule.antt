-- The rule of the lock. Word 0 is only loaded. Word 1 is 1 while a seat holds the lock and otherwise 0. Word 2 counts
-- the entries of the history. Slot 0 has the value.
use Rattle.std.specs.Prelude.{◌≡◌, ◌⊎◌, ℕ, ◌+◌, ◌-◌, ◌<◌, ◌≤◌, List, [], ◌∷◌, length, slice_index, Option, Some, None, Bool, true, false, if◌then◌else◌}
use mathlib.Core.Option.{some}
use mathlib.Core.List.{IsPrefix}
use lib.ListN.{get_elem?}
use Rattle.atomic_table.specs.Table.{State}
use Rattle.plain_list.specs.declared.entries.Entry.{Entry}
use Rattle.book_lock.specs.Origin.{Origin}
use Rattle.book_lock.specs.declared.view.View.{View}
use Rattle.book_lock.specs.Own.{times, once_below, Owns, Rises, IsBelow, merge}
use Rattle.book_lock.specs.Ends.{IsBegin, IsEnd, longer, shorter}

abbrev pub seat_view : List Entry → List Entry → List ℕ → Origin → ℕ → Bool → View
seat_view seen told own origin parts holds = record { seen = seen; told = told; own = own; origin = origin; parts = parts; holds = holds }

-- The sum of `f` over all views.
abbrev pub total : (View → ℕ) → List View → ℕ
total f [] = 0
total f (v ∷ vs) = f v + total f vs

-- 1 if the seat holds the lock, otherwise 0.
abbrev pub hold_of : View → ℕ
hold_of v = if v.holds then 1 else 0

abbrev pub parts_of : View → ℕ
parts_of v = v.parts

abbrev pub times_of : ℕ → View → ℕ
times_of p v = times p v.own

-- The number of parts of a lock. While a pass has all of them, no other pass can add to the history.
abbrev pub all_parts : ℕ
all_parts = 65536

-- The view of the first seat.
abbrev pub newcomer : Origin → View
newcomer origin = seat_view [] [] [] origin all_parts false

-- The origin of no value.
abbrev pub no_origin : Origin
no_origin = record { world = []; leaves = []; begun = 0; log = None; bucket = 0; kept = true }

-- A seat that was joined to another one.
abbrev pub spent : View
spent = seat_view [] [] [] no_origin 0 false

-- What the rule says of one view of a history and an origin. What the view has seen, and what was passed on to it, are
-- prefixes of the history. Its own positions rise, and it has seen them. Its origin is this one, unless the seat was
-- joined to another one. A seat that holds the lock has seen the whole history. A seat without a part owns nothing and
-- doesn't hold the lock.
pub record Fits (log : List Entry) (start : Origin) (v : View) : Type 0 where
  pub seen : IsPrefix v.seen log
  pub told : IsPrefix v.told log
  pub rises : Rises v.own
  pub below : IsBelow (length v.seen) v.own
  pub same : (v ≡ spent) ⊎ (v.origin ≡ start)
  pub whole : v.holds ≡ true → v.seen ≡ log
  pub idle : v.parts ≡ 0 → (v.own ≡ []) × (v.holds ≡ false)

-- Some seat owns this end of a split, and an earlier begin of it.
abbrev pub HasEnder : List View → List Entry → ℕ → ℕ → Type 0
HasEnder views log p n = (id q : ℕ) × (v : View) × (get_elem? views id ≡ some v) × Owns v.own p × Owns v.own q × (q < p) × IsBegin log q n

-- How a value's entries and origin, the words, and the views of all seats relate to one history.
pub record LockRule {V : Type 0} (entries : V → List Entry) (origin : V → Origin) (start : Origin) (s : State (Option V) View) : Type 0 where
  pub log : List Entry
  pub wide : length s.words ≡ 3
  pub counted : slice_index s.words 2 ≡ length log
  pub holding : total hold_of s.views ≡ slice_index s.words 1
  pub single : slice_index s.words 1 ≤ 1
  pub parts : total parts_of s.views ≡ all_parts
  pub owned : (p : ℕ) → total (times_of p) s.views ≡ once_below p (length log)
  pub each : (j : ℕ) (v : View) → get_elem? s.views j ≡ some v → Fits log start v
  pub home : slice_index s.words 1 ≡ 0 → (x : V) × (s.homes ≡ some (Some x) ∷ []) × (entries x ≡ log) × (origin x ≡ start)
  pub ended : (p n : ℕ) → IsEnd log p n → HasEnder s.views log p n

-- A seat without `n` of its parts.
abbrev pub without_parts : ℕ → View → View
without_parts n v = seat_view v.seen v.told v.own v.origin (v.parts - n) v.holds

-- A new seat that has `n` parts and has seen the same.
abbrev pub parts_from : ℕ → View → View
parts_from n v = seat_view v.seen [] [] v.origin n false

-- A new seat that has seen the same, without a part.
abbrev pub note_of : View → View
note_of v = seat_view v.seen [] [] v.origin 0 false

-- What a seat knows after another one was joined to it: the longer of what both have seen. The shorter is what was
-- passed on.
abbrev pub both : View → View → View
both v w = seat_view (longer v.seen w.seen) (shorter v.seen w.seen) (merge w.own v.own) v.origin (v.parts + w.parts) v.holds

abbrev pub untold : View → View
untold v = seat_view v.seen [] v.own v.origin v.parts v.holds
