-- What the splits of lanes lead to.
use Rattle.std.specs.Prelude.{◌≡◌, ◌⊎◌, ℕ, suc, ◌+◌, ◌<◌, ◌≤◌, ◌==◌, Bool, true, false, not, ◌||◌, List, [], ◌∷◌, length, if◌then◌else◌, Option, None}
use mathlib.Core.List.{IsPrefix}
use Rattle.std.specs.List.{list_any}
use Rattle.std.specs.Option.{option_map_or}
use Rattle.zorder.specs.SameName.{same_name}
use Rattle.plain_list.specs.declared.entries.Entry.{Entry}
use Rattle.plain_list.specs.declared.entries.Entry.TheVariants.{Begin, Abandon}
use Rattle.plain_list.specs.Played.{IsPlayedWhole}
use Rattle.plain_list.specs.History.{world_after, call_count, failed_cell}
use Rattle.plain_list.specs.State.{State, state_after, step}
use Rattle.plain_list.specs.Size.{IsSized, full_leaf}
use Rattle.kept_log.specs.Counts.{count_after}
use Rattle.commit_book.specs.IsBook.{most_events}
use Rattle.commit_book.specs.Refusals.{most_cells}
use Rattle.book_lock.specs.declared.origin.Origin.{Origin}
use Rattle.sessions.specs.Shared.{moves_of}
use Rattle.sessions.specs.Steps.{cells_at}
use Rattle.csv_rows.specs.declared.rows.InRow.{InRow}
use Rattle.lane_history.specs.SessionRows.{session_rows}

-- whether an entry abandons the split of this number
abbrev pub abandons : ℕ → Entry → Bool
abandons number (Abandon n) = n == number
abandons number _ = false

-- whether this is the first leaf that is over the size and has no open split
abbrev pub is_full_leaf : ℕ → ℕ → State → List Bool → Bool
is_full_leaf w size s name = option_map_or (λ (leaf : List Bool). same_name leaf name) (full_leaf w size s) false

-- whether an entry begins a split that is abandoned later, or a split of a leaf other than the first that is over the
-- size
abbrev pub is_stray : ℕ → ℕ → State → Entry → List Entry → Bool
is_stray w size s (Begin number name) later = list_any (abandons number) later || not (is_full_leaf w size s name)
is_stray w size s _ later = false

-- how many begins of a history from a state are stray
abbrev pub stray_begins : ℕ → ℕ → State → List Entry → ℕ
stray_begins w size s [] = 0
stray_begins w size s (e ∷ h) = if is_stray w size s e h then suc (stray_begins w size (step w s e) h) else stray_begins w size (step w s e) h

-- At the end no split is open, and no append has failed. No leaf that can be split has more objects than the size, or
-- there are more than 4,000,000 entries or 16,000,000 records. Stray begins are no more than the calls, so only splits
-- of leaves over the size use up further room.
pub record SplitsAreDone (w size : ℕ) (s : State) (first : Option ℕ) (h : List Entry) : Type 0 where
  pub ended : (state_after w s h).splits ≡ []
  pub going : failed_cell h ≡ None
  pub sized : IsSized w size (world_after s.world h) (state_after w s h).leaves ⊎ ((4000000 < length h) ⊎ (16000000 < count_after first s.world h))
  pub stray : stray_begins w size s h ≤ call_count h

-- how many splits a history begins
abbrev pub begin_count : List Entry → ℕ
begin_count [] = 0
begin_count (Begin number name ∷ h) = suc (begin_count h)
begin_count (_ ∷ h) = begin_count h

-- However the rows ended, their history and its log stay below their limits. Stray begins are at most one more than the
-- calls. There are no more begins than calls, unless each row was called, since only then splits at the end begin.
pub record IsWithinLimits (w size : ℕ) (s : State) (first : Option ℕ) (rows : List InRow) (h : List Entry) : Type 0 where
  pub entries : length h < most_events true
  pub cells : count_after first s.world h < most_cells
  pub stray : stray_begins w size s h ≤ call_count h + 1
  pub begins : (begin_count h ≤ call_count h) ⊎ IsPlayedWhole (session_rows rows) h

-- each prefix of a history is shorter than a history may be, and so are the records of the log after it
pub record IsBounded (origin : Origin) (h : List Entry) : Type 0 where
  pub short : (g : List Entry) → IsPrefix g h → length g < most_events origin.kept
  pub few : (g : List Entry) → IsPrefix g h → cells_at origin g < most_cells

-- where rows may be played: a store that keeps the list of its entries, and whose log has at most 16,000,000 records and
-- is never replaced
pub record IsPlayStart (origin : Origin) : Type 0 where
  pub kept : origin.kept ≡ true
  pub few : cells_at origin [] ≤ 16000000
  pub still : moves_of origin ≡ false
