-- A store that continues over its second file while its history goes on. A fresh log of its objects and leaves is begun
-- there and replaces its log, while a pass holds the lock.
use Rattle.std.specs.Prelude.{◌≡◌, ◌⊎◌, ℕ, ◌<◌, ◌≤◌, Bool, true, false, List, [], if◌then◌else◌, Option, is_some, Some, None, Result, Ok, Err}
use mathlib.Core.List.{IsPrefix}
use Rattle.disk_trait.specs.Drive.{Drive}
use Rattle.plain_list.specs.declared.entries.Entry.{Entry}
use Rattle.plain_list.specs.declared.entries.Entry.TheVariants.{Fail}
use Rattle.plain_list.specs.History.{world_after, failed_cell}
use Rattle.plain_list.specs.State.{state_after}
use Rattle.split_log.specs.LogView.{LogView}
use Rattle.recovery.specs.declared.seen.Seen.{Seen}
use Rattle.kept_log.specs.Journal.{cells_in, log_in, moves_in, waiting_in}
use Rattle.log_compact.specs.Clearing.{Clears, FailsToClear}
use Rattle.commit_book.specs.BookView.{BookView}
use Rattle.commit_book.specs.IsBook.{AreBooks, AreMovedBooks, most_events}
use Rattle.commit_book.specs.Moves.{StopsBook, lost_stop, may_move_refusal, with_fresh_log}
use Rattle.commit_book.specs.Refusals.{Closes, call_refusal}
use Rattle.commit_book.specs.RoomLeft.{room_of}
use Rattle.commit_book.specs.Rotation.{HasContent}
use Rattle.commit_book.specs.Syncs.{lost_sync}
use Rattle.commit_book.specs.declared.faults.BookFault.{BookFault}
use Rattle.commit_book.specs.declared.faults.BookFault.TheVariants as book
use Rattle.book_lock.specs.Pass.{Known}
use Rattle.sessions.specs.Runs.{HasLooked}
use Rattle.sessions.specs.Shared.{moves_of, origin_of}
use Rattle.sessions.specs.Steps.{all_parts, has_added}
use Rattle.sessions.specs.Syncs.{Stood, SyncsPass}
use Rattle.store_file.specs.declared.rotating.RotateCause.TheVariants as rotate
use Rattle.store_file.specs.declared.rotating.BeginCause.{BeginCause}
use Rattle.store_file.specs.declared.rotating.BeginCause.TheVariants as begun
use Rattle.store_file.specs.declared.moving.Rotation.{Rotation}
use Rattle.store_file.specs.declared.moving.Rotation.TheVariants.{Enough, NoSpare, Done}
use Rattle.store_file.specs.declared.moving.StayCause.{StayCause}
use Rattle.store_file.specs.declared.moving.StayCause.TheVariants.{Splitting, HistoryFull, Refused}
use Rattle.store_file.specs.declared.moving.NotRotatedOver.{NotRotatedOver}
use Rattle.store_file.specs.declared.moving.NotRotatedOver.TheVariants as over
use Rattle.store_file.specs.declared.moving.NotMovedOver.{NotMovedOver}
use Rattle.store_file.specs.declared.moving.NotMovedOver.TheVariants.{Stays, Unsynced, SpareFailed, FirstFailed}
use Rattle.store_file.specs.Rotated.{BeginsFresh, IsUnsure, LeavesView, RefusesAnew}

-- The leaves of a book.
abbrev pub AreOf : {D : Type 0} → ℕ → BookView D → List (List Bool) → Type 0
AreOf w b leaves = leaves ≡ (state_after w b.opening b.entries).leaves

-- A fresh log that was opened on the drive `start` has replaced a book's log. `Came` is what came of the emptying of the
-- first log: of its number of cells, and its drive before and after.
pub record TakesOver {D : Type 0} (drive : D → Drive) (w : ℕ) (Came : ℕ → Drive → Drive → Type 0) (old new : BookView D) (seen : Seen) (start : D) (log : LogView D) (first : D) : Type 0 where
  pub new_is : new ≡ with_fresh_log w seen log start old
  pub books : AreMovedBooks drive w old new
  pub leaves : LeavesView drive Came (log_in old.log) first

-- The history takes more entries than a history may have that is kept as a list. So it isn't kept as one.
abbrev pub HasRoom : {D : Type 0} → BookView D → Type 0
HasRoom b = most_events true < (room_of b).entries

-- The fresh log has the book's content, and was begun on the second drive.
pub record Replaces {D : Type 0} (drive : D → Drive) (w : ℕ) (Came : ℕ → Drive → Drive → Type 0) (old new : BookView D) (spare first : D) : Type 0 where
  pub seen : Seen
  pub start : D
  pub log : LogView D
  pub room : HasRoom old
  pub begins : BeginsFresh drive w spare seen start log
  pub content : HasContent w old seen
  pub takes : TakesOver drive w Came old new seen start log first

-- The cause for which a store stays over its own file, if its book allows no fresh log.
abbrev pub stay_cause : BookFault → StayCause
stay_cause (book.Closed cell) = Refused (rotate.Closed cell)
stay_cause (book.Splitting number) = Splitting number
stay_cause book.HistoryFull = HistoryFull
stay_cause _ = Refused rotate.Memory

-- Why the store stays over its own file, and what that leaves of the second drive. The history has no such room. Or the
-- book allows no fresh log for this cause. Or nothing was written on the second drive: then the cause is as that of a
-- rotation.
abbrev pub StaysFor : {D : Type 0} → (D → Drive) → ℕ → BookView D → D → D → StayCause → Type 0
StaysFor drive w old spare left (Splitting number) = HasRoom old × (may_move_refusal w old ≡ Some (book.Splitting number)) × (left ≡ spare)
StaysFor drive w old spare left HistoryFull = ((room_of old).entries ≤ most_events true) × (left ≡ spare)
StaysFor drive w old spare left (Refused cause) =
    HasRoom old × RefusesAnew drive w (AreOf w old) (failed_cell old.entries) (world_after old.opening.world old.entries) spare left cause

-- The book was stopped.
pub record IsStopped {D : Type 0} (drive : D → Drive) (w : ℕ) (old new : BookView D) : Type 0 where
  pub stops : StopsBook old new
  pub books : AreBooks drive w old new

-- The log was replaced, but the first drive failed while its log was emptied. Then the book was stopped.
pub record ReplacesAndStops {D : Type 0} (drive : D → Drive) (w : ℕ) (old new : BookView D) (spare first : D) : Type 0 where
  pub mid : BookView D
  pub replaces : Replaces drive w (λ count. FailsToClear) old mid spare first
  pub stopped : IsStopped drive w mid new

-- A whole fresh log is on the second drive, and has not replaced the book's log.
pub record IsWritten {D : Type 0} (drive : D → Drive) (w : ℕ) (old : BookView D) (spare left : D) : Type 0 where
  pub seen : Seen
  pub start : D
  pub log : LogView D
  pub begins : BeginsFresh drive w spare seen start log
  pub content : HasContent w old seen
  pub left_is : left ≡ log.disk

-- What is left of a book whose log was not replaced, or was replaced by a log to which nothing may be appended.
abbrev pub NotReplaced : {D : Type 0} → (D → Drive) → ℕ → BookView D → BookView D → D → NotMovedOver D → Type 0
NotReplaced drive w old new spare (Stays left cause) = (new ≡ old) × StaysFor drive w old spare left cause
NotReplaced drive w old new spare (Unsynced left) = ⊥
NotReplaced drive w old new spare (SpareFailed left) =
    IsStopped drive w old new × (IsUnsure drive w (AreOf w old) (failed_cell old.entries) (world_after old.opening.world old.entries) spare left ⊎ IsWritten drive w old spare left) × HasRoom old
NotReplaced drive w old new spare (FirstFailed first) = ReplacesAndStops drive w old new spare first

-- What comes of a fresh log that was begun. It replaces the book's log, but the first drive fails while its log is emptied.
-- Or it doesn't replace it.
abbrev pub NotTaken : {D : Type 0} → (D → Drive) → ℕ → BookView D → BookView D → Seen → D → LogView D → NotMovedOver D → Type 0
NotTaken drive w old new seen start log (Stays left cause) = ⊥
NotTaken drive w old new seen start log (Unsynced left) = ⊥
NotTaken drive w old new seen start log (SpareFailed left) = IsStopped drive w old new × (left ≡ log.disk)
NotTaken {D = D} drive w old new seen start log (FirstFailed first) = (mid : BookView D) × TakesOver drive w (λ count. FailsToClear) old mid seen start log first × IsStopped drive w mid new

-- The records that waited were written, and the history is unchanged. No append has failed.
pub record IsSynced {D : Type 0} (drive : D → Drive) (w : ℕ) (old new : BookView D) : Type 0 where
  pub entries : new.entries ≡ old.entries
  pub cells : cells_in new.log ≡ cells_in old.log
  pub none_wait : waiting_in new.log ≡ []
  pub going : failed_cell new.entries ≡ None
  pub books : AreBooks drive w old new

-- What holds of the book after that.
abbrev pub AfterSync : {D : Type 0} → (D → Drive) → ℕ → BookView D → (BookView D → Type 0) → Type 0
AfterSync {D = D} drive w old Holds = (mid : BookView D) × IsSynced drive w old mid × Holds mid

-- The append of the records that waited has failed. The book is closed.
pub record LosesSync {D : Type 0} (drive : D → Drive) (w : ℕ) (old new : BookView D) : Type 0 where
  pub cell : ℕ
  pub closes : Closes drive lost_sync old new cell
  pub refused : call_refusal old.kept old.entries ≡ None
  pub books : AreBooks drive w old new

-- What is left of a book that wasn't replaced, if its records that waited were to be written first.
abbrev pub NotTurned : {D : Type 0} → (D → Drive) → ℕ → BookView D → BookView D → D → NotMovedOver D → Type 0
NotTurned drive w old new spare (Stays left cause) =
    NotReplaced drive w old new spare (Stays left cause) ⊎ AfterSync drive w old (λ mid. NotReplaced drive w mid new spare (Stays left cause))
NotTurned drive w old new spare (Unsynced left) = LosesSync drive w old new × (left ≡ spare)
NotTurned drive w old new spare (SpareFailed left) = AfterSync drive w old (λ mid. NotReplaced drive w mid new spare (SpareFailed left))
NotTurned drive w old new spare (FirstFailed first) = AfterSync drive w old (λ mid. NotReplaced drive w mid new spare (FirstFailed first))

-- What comes of a second drive on which no log was begun.
abbrev pub LeavesUnbegun : {D : Type 0} → (D → Drive) → ℕ → BookView D → BookView D → D → BeginCause → NotMovedOver D → Type 0
LeavesUnbegun drive w old new left (begun.Refused cause) e = (new ≡ old) × (e ≡ Stays left (Refused cause))
LeavesUnbegun drive w old new left begun.Unsure e = IsStopped drive w old new × (e ≡ SpareFailed left)

-- What a call tells of what came of a move.
abbrev pub rotation_of : {D : Type 0} → Result D (NotMovedOver D) → Result Rotation NotRotatedOver
rotation_of (Ok first) = Ok Done
rotation_of (Err (Stays left cause)) = Err (over.Stays cause)
rotation_of (Err (Unsynced left)) = Err over.Unsynced
rotation_of (Err (SpareFailed left)) = Err over.SpareFailed
rotation_of (Err (FirstFailed first)) = Err over.FirstFailed

-- Whether the call has stopped the book.
abbrev pub has_stopped : Result Rotation NotRotatedOver → Bool
has_stopped (Ok rotation) = false
has_stopped (Err (over.Stays cause)) = false
has_stopped (Err over.Unsynced) = true
has_stopped (Err over.SpareFailed) = true
has_stopped (Err over.FirstFailed) = true

-- The log has more records than this number, those that wait among them.
abbrev pub HasMore : {D : Type 0} → ℕ → BookView D → Type 0
HasMore records b = records < cells_in b.log

-- There is a log, which has at most so many.
abbrev pub HasEnough : {D : Type 0} → ℕ → BookView D → Type 0
HasEnough records b = (is_some b.log ≡ true) × (cells_in b.log ≤ records)

-- The log has more records than this number, or there is no log. Contracts don't see that there is no second drive.
abbrev pub HasNoSpare : {D : Type 0} → ℕ → BookView D → Type 0
HasNoSpare records b = (b.log ≡ None) ⊎ HasMore records b

-- The log has more, and a fresh log may replace it.
abbrev pub MayTurn : {D : Type 0} → ℕ → BookView D → Type 0
MayTurn records b = HasMore records b × (moves_in b.log ≡ true)

-- What a call leaves of a book. The second drive was kept for the book until then.
abbrev pub RotatesBook : {D : Type 0} → (D → Drive) → ℕ → ℕ → BookView D → BookView D → Result Rotation NotRotatedOver → Type 0
RotatesBook drive w records old new (Ok Enough) = (new ≡ old) × HasEnough records old
RotatesBook drive w records old new (Ok NoSpare) = (new ≡ old) × HasNoSpare records old
RotatesBook {D = D} drive w records old new (Ok Done) = MayTurn records old × ((spare first : D) × Replaces drive w Clears old new spare first)
RotatesBook {D = D} drive w records old new (Err (over.Stays cause)) = HasMore records old × ((spare left : D) × NotReplaced drive w old new spare (Stays left cause))
RotatesBook drive w records old new (Err over.Unsynced) = ⊥
RotatesBook {D = D} drive w records old new (Err over.SpareFailed) = MayTurn records old × ((spare left : D) × NotReplaced drive w old new spare (SpareFailed left))
RotatesBook {D = D} drive w records old new (Err over.FirstFailed) = MayTurn records old × ((spare first : D) × NotReplaced drive w old new spare (FirstFailed first))

-- The same, if the records that waited were written first.
abbrev pub TurnsBook : {D : Type 0} → (D → Drive) → ℕ → ℕ → BookView D → BookView D → Result Rotation NotRotatedOver → Type 0
TurnsBook drive w records old new (Ok Enough) = RotatesBook drive w records old new (Ok Enough)
TurnsBook drive w records old new (Ok NoSpare) = RotatesBook drive w records old new (Ok NoSpare)
TurnsBook drive w records old new (Ok Done) = AfterSync drive w old (λ mid. RotatesBook drive w records mid new (Ok Done))
TurnsBook drive w records old new (Err (over.Stays cause)) =
    RotatesBook drive w records old new (Err (over.Stays cause)) ⊎ AfterSync drive w old (λ mid. RotatesBook drive w records mid new (Err (over.Stays cause)))
TurnsBook drive w records old new (Err over.Unsynced) = LosesSync drive w old new × (moves_in old.log ≡ true)
TurnsBook drive w records old new (Err over.SpareFailed) = AfterSync drive w old (λ mid. RotatesBook drive w records mid new (Err over.SpareFailed))
TurnsBook drive w records old new (Err over.FirstFailed) = AfterSync drive w old (λ mid. RotatesBook drive w records mid new (Err over.FirstFailed))

-- The store's book was left as it was, and this holds of it. It had all that the pass has seen.
pub record LeavesBook {D : Type 0} (drive : D → Drive) (w : ℕ) (Holds : BookView D → Type 0) (old new : Known) : Type 0 where
  pub looked : HasLooked old new
  pub stood : Stood drive w new
  pub holds : Holds stood.book

-- The store stays over its own file, for this cause.
abbrev pub StaysOver : {D : Type 0} → (D → Drive) → ℕ → ℕ → StayCause → BookView D → Type 0
StaysOver {D = D} drive w records cause b = HasMore records b × ((spare left : D) × StaysFor drive w b spare left cause)

-- The store continues over its second file. When the lock was given back, the store's book had all that the pass has
-- seen, and a fresh log on the second drive had replaced its log, in which no record waited. The first log has no cells any
-- more.
pub record MovesOver {D : Type 0} (drive : D → Drive) (w records : ℕ) (old new : Known) : Type 0 where
  pub looked : HasLooked old new
  pub stood : Stood drive w new
  pub before : BookView D
  pub entries : before.entries ≡ new.seen
  pub origin : origin_of drive before ≡ new.origin
  pub moves : moves_of new.origin ≡ true
  pub more : HasMore records before
  pub none_waited : waiting_in before.log ≡ []
  pub spare : D
  pub first : D
  pub replaces : Replaces drive w Clears before stood.book spare first

-- The store was stopped. The last entry that the pass has seen is the failed append of a find, and is its own. A drive
-- has failed, or a fresh log on the second drive did not replace the log. Before that no append had failed, and no record
-- waited.
pub record StopsStore {D : Type 0} (drive : D → Drive) (w records : ℕ) (failed : D → NotMovedOver D) (old new : Known) : Type 0 where
  pub before : BookView D
  pub later : IsPrefix old.seen before.entries
  pub alone : old.parts ≡ all_parts → before.entries ≡ old.seen
  pub cell : ℕ
  pub added : new ≡ has_added old before.entries (Fail cell lost_stop)
  pub origin : origin_of drive before ≡ new.origin
  pub moves : moves_of new.origin ≡ true
  pub stood : Stood drive w new
  pub more : HasMore records before
  pub none_waited : waiting_in before.log ≡ []
  pub going : failed_cell before.entries ≡ None
  pub spare : D
  pub left : D
  pub fails : NotReplaced drive w before stood.book spare (failed left)

-- The store was stopped: the append of the records that waited has failed, and no fresh log was begun.
pub record LeavesUnsynced {D : Type 0} (drive : D → Drive) (w : ℕ) (old new : Known) : Type 0 where
  pub cell : ℕ
  pub syncs : SyncsPass old new (Err (book.Disk cell))
  pub stood : Stood drive w new
  pub moves : moves_of new.origin ≡ true

-- What a call with this number of records leaves of a pass.
abbrev pub RotatesAbove : {D : Type 0} → (D → Drive) → ℕ → ℕ → Known → Known → Result Rotation NotRotatedOver → Type 0
RotatesAbove drive w records old new (Ok Enough) = LeavesBook drive w (HasEnough records) old new
RotatesAbove drive w records old new (Ok NoSpare) = LeavesBook drive w (HasNoSpare records) old new
RotatesAbove drive w records old new (Ok Done) = MovesOver drive w records old new
RotatesAbove drive w records old new (Err (over.Stays cause)) = LeavesBook drive w (StaysOver drive w records cause) old new
RotatesAbove drive w records old new (Err over.Unsynced) = LeavesUnsynced drive w old new
RotatesAbove drive w records old new (Err over.SpareFailed) = StopsStore drive w records SpareFailed old new
RotatesAbove drive w records old new (Err over.FirstFailed) = StopsStore drive w records FirstFailed old new

-- The record at which the store was stopped, if it was.
abbrev pub stopped_at : List Entry → Result Rotation NotRotatedOver → Option ℕ
stopped_at seen rotated = if has_stopped rotated then failed_cell seen else None

-- The same for some number of records. The result says whether the store was stopped, and at which record.
pub record Tends {D : Type 0} (drive : D → Drive) (w : ℕ) (old new : Known) (result : Option ℕ) : Type 0 where
  pub records : ℕ
  pub rotated : Result Rotation NotRotatedOver
  pub rotates : RotatesAbove drive w records old new rotated
  pub result_is : result ≡ stopped_at new.seen rotated
