-- What each kind of step returns to the seat that makes it.
use Rattle.std.specs.Prelude.{◌≡◌, ◌≢◌, ℕ, ◌≤◌, List, [], ◌∷◌, ◌++◌, length, Option, Some, true, false}
use mathlib.Core.List.{IsPrefix}
use Rattle.atomic_table.specs.Table.{Me, Step}
use Rattle.plain_list.specs.declared.entries.Entry.{Entry}
use Rattle.book_lock.specs.Origin.{Origin}
use Rattle.book_lock.specs.declared.view.View.{View}
use Rattle.book_lock.specs.Own.{Rises, IsBelow}
use Rattle.book_lock.specs.Ends.{OwnsEnds}
use Rattle.book_lock.specs.Rule.{all_parts, seat_view}

abbrev pub Sat : Type 0 → Type 0
Sat V = Me (Option V) View

-- The view of a seat that holds the lock and has seen this history.
abbrev pub holder : View → List Entry → View
holder v log = seat_view log v.told v.own v.origin v.parts true

module _ {V : Type 0} where
  -- The lock was free, and the seat now has it, with the value. If the seat has all parts, the value has no new entry.
  -- Or the lock was taken, and nothing changed.
  abbrev pub taken : (V → List Entry) → (V → Origin) → Step (Option V) → Sat V → ℕ → Sat V → Type 0
  taken entries origin s me found now =
      (found ≡ 0 → (x : V) × (now ≡ (holder me.0 (entries x), (0, Some x) ∷ [])) × (origin x ≡ me.0.origin) × IsPrefix me.0.seen (entries x) × OwnsEnds (entries x) me.0.own × Rises me.0.own × IsBelow (length (entries x)) me.0.own × (me.0.parts ≡ all_parts → entries x ≡ me.0.seen))
      × (found ≢ 0 → now ≡ me)

  -- The entry was added after all that was seen, and its position is own.
  abbrev pub noted : Entry → Step (Option V) → Sat V → ℕ → Sat V → Type 0
  noted e s me found now = now ≡ (seat_view (me.0.seen ++ e ∷ []) me.0.told (me.0.own ++ length me.0.seen ∷ []) me.0.origin me.0.parts me.0.holds, me.1)

  -- The lock and the value were given back.
  abbrev pub released : Step (Option V) → Sat V → ℕ → Sat V → Type 0
  released s me found now = now ≡ (seat_view me.0.seen me.0.told me.0.own me.0.origin me.0.parts false, [])

  -- What was passed on is a prefix of what was seen, and is forgotten.
  abbrev pub compared : Step (Option V) → Sat V → ℕ → Sat V → Type 0
  compared s me found now =
      (now ≡ (seat_view me.0.seen [] me.0.own me.0.origin me.0.parts me.0.holds, me.1)) × (length me.0.told ≤ length me.0.seen → IsPrefix me.0.told me.0.seen)
