-- What one step under the lock leaves of a pass.
use Rattle.std.specs.Prelude.{◌≡◌, ℕ, Bool, true, false, List, [], ◌∷◌, ◌++◌, length, Option, Result, Ok, Err}
use mathlib.Core.List.{IsPrefix}
use Rattle.plain_list.specs.declared.entries.Entry.{Entry}
use Rattle.plain_list.specs.declared.entries.Entry.TheVariants.{Fail}
use Rattle.plain_list.specs.declared.entries.Lost.{Lost}
use Rattle.disk_trait.specs.Drive.{Drive}
use Rattle.kept_log.specs.Counts.{count_after}
use Rattle.commit_book.specs.BookView.{BookView}
use Rattle.commit_book.specs.Refusals.{IsRefusedBy}
use Rattle.commit_book.specs.declared.faults.BookFault.{BookFault}
use Rattle.commit_book.specs.declared.faults.BookFault.TheVariants.{Closed, Disk, HistoryFull, LogFull, Memory, Room, Splitting, Deep, NoLeaf, Stale, NotOpen}
use Rattle.book_lock.specs.Pass.{Known}
use Rattle.book_lock.specs.Own.{IsBelow}
use Rattle.book_lock.specs.Ends.{MayNote, OwnsEnds}
pub use Rattle.book_lock.specs.Rule.{all_parts}
use Rattle.book_lock.specs.declared.origin.Origin.{Origin}
use Rattle.sessions.specs.Shared.{first_cells, moves_of, origin_of}

-- The pass has seen this history, and nothing else changed.
abbrev pub has_seen : Known → List Entry → Known
has_seen old before = record old { seen = before }

-- The pass has seen this history and one more entry, which is its own.
abbrev pub has_added : Known → List Entry → Entry → Known
has_added old before e = record old { seen = before ++ e ∷ []; own = old.own ++ length before ∷ [] }

-- The number of cells after a history in the log of a store of this origin, if no fresh log has replaced it. It is 0
-- without a log.
abbrev pub cells_at : Origin → List Entry → ℕ
cells_at origin before = count_after (first_cells origin) origin.world before

-- The log of a store of this origin may have so many cells after a history. If no fresh log may replace it, the history
-- determines the number.
abbrev pub IsCount : Origin → List Entry → ℕ → Type 0
IsCount origin before cells = moves_of origin ≡ false → cells ≡ cells_at origin before

-- What a step leaves. If it adds an entry, that entry is the last one that was seen, and is the pass's own.
abbrev pub Leaves : {A : Type 0} → (A → Entry) → (List Entry → Lost) → Known → List Entry → Known → Result A BookFault → Type 0
Leaves entry lost old before new (Ok value) = new ≡ has_added old before (entry value)
Leaves entry lost old before new (Err (Disk cell)) = new ≡ has_added old before (Fail cell (lost before))
Leaves entry lost old before new (Err (Closed cell)) = new ≡ has_seen old before
Leaves entry lost old before new (Err HistoryFull) = new ≡ has_seen old before
Leaves entry lost old before new (Err LogFull) = new ≡ has_seen old before
Leaves entry lost old before new (Err Memory) = new ≡ has_seen old before
Leaves entry lost old before new (Err (Room cells events)) = new ≡ has_seen old before
Leaves entry lost old before new (Err (Splitting number)) = new ≡ has_seen old before
Leaves entry lost old before new (Err Deep) = new ≡ has_seen old before
Leaves entry lost old before new (Err NoLeaf) = new ≡ has_seen old before
Leaves entry lost old before new (Err (Stale number)) = new ≡ has_seen old before
Leaves entry lost old before new (Err (NotOpen number)) = new ≡ has_seen old before

-- The fact holds of the value that a step returns.
abbrev pub Says : {A : Type 0} → (A → Type 0) → Result A BookFault → Type 0
Says P (Ok value) = P value
Says P (Err fault) = Unit {0}

-- A step under the lock: the history that the pass saw there, the number of cells in the log then, why the step is
-- refused, and what it leaves.
pub record IsStep {A : Type 0} (IsFree : BookFault → Type 0) (cause : ℕ → List Entry → Option BookFault) (entry : A → Entry) (lost : List Entry → Lost) (P : List Entry → A → Type 0) (old new : Known) (result : Result A BookFault) : Type 0 where
  pub before : List Entry
  pub later : IsPrefix old.seen before
  pub alone : old.parts ≡ all_parts → before ≡ old.seen
  pub cells : ℕ
  pub counted : IsCount old.origin before cells
  pub refused : IsRefusedBy IsFree (cause cells before) result
  pub says : Says (P before) result
  pub leaves : Leaves entry lost old before new result

-- A book was taken from the lock. Its entries are all that the pass has seen. If the pass alone began a split, it owns
-- the end of that split.
pub record WasTaken {D : Type 0} (drive : D → Drive) (b : BookView D) (old took : Known) : Type 0 where
  pub entries : b.entries ≡ took.seen
  pub origin : origin_of drive b ≡ old.origin
  pub later : IsPrefix old.seen took.seen
  pub took_is : took ≡ record old { seen = took.seen; holds = true }
  pub off : old.holds ≡ false
  pub alone : old.parts ≡ all_parts → took.seen ≡ old.seen
  pub ends : OwnsEnds took.seen took.own
  pub below : IsBelow (length took.seen) took.own

-- Whether a step has added an entry: it was done, or its append failed.
abbrev pub has_entry : {A : Type 0} → Result A BookFault → Bool
has_entry (Ok value) = true
has_entry (Err (Disk cell)) = true
has_entry (Err (Closed cell)) = false
has_entry (Err HistoryFull) = false
has_entry (Err LogFull) = false
has_entry (Err Memory) = false
has_entry (Err (Room cells events)) = false
has_entry (Err (Splitting number)) = false
has_entry (Err Deep) = false
has_entry (Err NoLeaf) = false
has_entry (Err (Stale number)) = false
has_entry (Err (NotOpen number)) = false

-- A pass that holds the lock may give a book with these entries back. The book has one more entry or is unchanged.
abbrev pub MayGive : Known → Bool → List Entry → Type 0
MayGive pass true entries = (e : Entry) × (entries ≡ pass.seen ++ e ∷ []) × MayNote pass.seen pass.own e
MayGive pass false entries = entries ≡ pass.seen

-- The pass after it gave the book back.
abbrev pub has_given : Known → Bool → List Entry → Known
has_given pass true entries = record pass { seen = entries; own = pass.own ++ length pass.seen ∷ []; holds = false }
has_given pass false entries = record pass { holds = false }
