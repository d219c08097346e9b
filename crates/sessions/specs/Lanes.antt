-- What playing a lane's rows leaves.
use Rattle.std.specs.Prelude.{◌≡◌, ℕ, ◌+◌, ◌<◌, ◌≤◌, Bool, List, [], ◌∷◌, ◌++◌, length, slice_index_or, vec_len, vec_capacity, drop, true, false, Option, Some, None, Ok, Err}
use Rattle.plain_list.specs.declared.ops.Op.{Op}
use Rattle.plain_list.specs.Answer.{IsValid}
use Rattle.atomic_table.specs.Seated.{TableId}
use Rattle.book_lock.specs.Pass.{Known}
use Rattle.commit_book.specs.declared.book.Done.{Done}
use Rattle.sessions.specs.declared.faults.CallFault.{CallFault}
use Rattle.sessions.specs.declared.faults.Split.{Split}
use Rattle.sessions.specs.declared.store.lanes.Lane.{Lane}
use Rattle.sessions.specs.declared.store.lanes.KeptRow.{KeptRow}
use Rattle.sessions.specs.Calls.{Called}
use Rattle.sessions.specs.Splits.{SplitEnds}

-- The lane has a pass of this lock and valid rows. No row is kept yet, and there is room for all of them.
pub record IsReadyLane {I D O P : Type 0} (lock : TableId) (lane : Lane I D O P) : Type 0 where
  pub lock_is : lane.pass.lock ≡ lock
  pub off : lane.pass.holds ≡ false
  pub valid : (i : ℕ) (d : ℕ × Op) → i < length lane.rows.items → IsValid (slice_index_or lane.rows.items i d).1
  pub room : vec_len lane.kept + length lane.rows.items ≤ vec_capacity lane.kept
  pub kept : lane.kept.items ≡ []
  pub fault : lane.fault ≡ None

-- A split is tried if a leaf is given, and nothing else is done.
abbrev pub Tries : ℕ → Option (List Bool) → Known → Known → Option Split → Type 0
Tries w None mid new split = (split ≡ None) × (new ≡ mid)
Tries w (Some name) mid new split = (s : Split) × (split ≡ Some s) × SplitEnds w name mid new s

-- A row was called, and a split was tried if the call returned a leaf. Both results are kept.
pub record KeepsRow (w session : ℕ) (old new : Known) (row : ℕ × Op) (kept : KeptRow) : Type 0 where
  pub mid : Known
  pub done : Done
  pub called : Called w session row.0 row.1 old mid (Ok done)
  pub row_is : kept.row ≡ row.0
  pub place_is : kept.place ≡ done.place
  pub answer_is : kept.answer ≡ done.answer
  pub tries : Tries w done.full mid new kept.split

-- Each of the rows was called, one after another, and is kept.
abbrev pub KeepsAll : ℕ → ℕ → Known → List (ℕ × Op) → List KeptRow → Known → Type 0
KeepsAll w session old [] [] new = new ≡ old
KeepsAll w session old [] (k ∷ kept) new = ⊥
KeepsAll w session old (r ∷ rows) [] new = ⊥
KeepsAll w session old (r ∷ rows) (k ∷ kept) new = (mid : Known) × KeepsRow w session old mid r k × KeepsAll w session mid rows kept new

-- No row is left, or the next one was refused.
abbrev pub Stops : ℕ → ℕ → Known → Known → List (ℕ × Op) → Option CallFault → Type 0
Stops w session mid new [] None = new ≡ mid
Stops w session mid new [] (Some fault) = ⊥
Stops w session mid new (r ∷ rest) None = ⊥
Stops w session mid new (r ∷ rest) (Some fault) = Called w session r.0 r.1 mid new (Err fault)

-- A lane was played. Its rows are kept in order, up to the first that was refused, or up to the end.
pub record PlaysLane {I D O P : Type 0} (w : ℕ) (old new : Lane I D O P) : Type 0 where
  pub session : new.session ≡ old.session
  pub rows : new.rows.items ≡ old.rows.items
  pub front : List (ℕ × Op)
  pub rest : List (ℕ × Op)
  pub mid : Known
  pub whole : old.rows.items ≡ front ++ rest
  pub keeps : KeepsAll w old.session old.pass front new.kept.items mid
  pub stops : Stops w old.session mid new.pass rest new.fault

-- Rows were played one after another, up to the rest. Their results follow what was kept before.
pub record PlaysRows (w session : ℕ) (old new : Known) (before after : List KeptRow) (rows rest : List (ℕ × Op)) : Type 0 where
  pub front : List (ℕ × Op)
  pub added : List KeptRow
  pub rows_are : rows ≡ front ++ rest
  pub kept_are : after ≡ before ++ added
  pub keeps : KeepsAll w session old front added new

-- A lane continued from a row to a later one, and kept the rows between them.
pub record PlaysOn {I D O P : Type 0} (w i j : ℕ) (old new : Lane I D O P) : Type 0 where
  pub session : new.session ≡ old.session
  pub rows : new.rows.items ≡ old.rows.items
  pub fault : new.fault ≡ None
  pub within : j ≤ length old.rows.items
  pub count : vec_len new.kept + i ≡ vec_len old.kept + j
  pub room : vec_capacity old.kept ≤ vec_capacity new.kept
  pub plays : PlaysRows w old.session old.pass new.pass old.kept.items new.kept.items (drop i old.rows.items) (drop j old.rows.items)

-- A lane continued from a row to one that was refused.
pub record StopsOn {I D O P : Type 0} (w i : ℕ) (old new : Lane I D O P) : Type 0 where
  pub session : new.session ≡ old.session
  pub rows : new.rows.items ≡ old.rows.items
  pub mid : Known
  pub rest : List (ℕ × Op)
  pub plays : PlaysRows w old.session old.pass mid old.kept.items new.kept.items (drop i old.rows.items) rest
  pub stops : Stops w old.session mid new.pass rest new.fault

-- The lane continued by one row if the result is true. Otherwise a row was refused.
abbrev pub Advances : {I D O P : Type 0} → ℕ → ℕ → Lane I D O P → Lane I D O P → Bool → Type 0
Advances w i old new true = PlaysOn w i (i + 1) old new
Advances w i old new false = StopsOn w i old new

-- The lane continued up to the row that is to be played next. For `None` a row was refused.
abbrev pub GoesOn : {I D O P : Type 0} → ℕ → ℕ → Lane I D O P → Lane I D O P → Option ℕ → Type 0
GoesOn w i old new (Some j) = (i < j) × PlaysOn w i j old new
GoesOn w i old new None = StopsOn w i old new
