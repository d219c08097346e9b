-- A store whose records waited has ended, and doesn't continue over a second file.
use Rattle.std.specs.Prelude.{◌≡◌, ℕ, List, Bool, Option, Some, None, ⊤}
use Rattle.disk_trait.specs.Drive.{Drive}
use Rattle.plain_list.specs.History.{failed_cell}
use Rattle.split_log.specs.LogView.{LogView}
use Rattle.kept_log.specs.Journal.{disk_in}
use Rattle.book_lock.specs.Pass.{Known}
use Rattle.atomic_table.specs.Seated.{TableId}
use Rattle.commit_book.specs.BookView.{BookView}
use Rattle.commit_book.specs.IsBook.{IsBook}
use Rattle.log_compact.specs.Clearing.{Clears, FailsToClear}
use Rattle.sessions.specs.Shared.{origin_of}
use Rattle.store_file.specs.declared.rotating.BeginCause.{BeginCause}
use Rattle.store_file.specs.declared.rotating.BeginCause.TheVariants as begun
use Rattle.store_file.specs.declared.rotating.NotRotated.{NotRotated}
use Rattle.store_file.specs.declared.rotating.NotRotated.TheVariants as back
use Rattle.store_file.specs.declared.rotating_at_sync.EndCause.{EndCause}
use Rattle.store_file.specs.declared.rotating_at_sync.EndCause.TheVariants.{Unsynced, Refused, Unsure, Uncleared, Memory}
use Rattle.store_file.specs.Closed.{ClosesStore}
use Rattle.store_file.specs.Opened.{first_pass}
use Rattle.store_file.specs.Rotated.{IsRotatedAlone, IsUnsure, LeavesView, RefusesAnew, world_left}
use Rattle.store_file.specs.Waiting.{ClosesUnsynced, waiting_origin}

-- The second drive is that of a book that continues there, and has no entries. So its log has all objects.
pub record IsMoved {D : Type 0} (drive : D → Drive) (w : ℕ) (Are : List (List Bool) → Type 0) (Came : ℕ → Drive → Drive → Type 0) (old : Known) (spare first second : D) : Type 0 where
  pub book : BookView D
  pub is_book : IsBook drive w book
  pub alone : IsRotatedAlone drive w Are Came old spare book first
  pub disk_is : disk_in book.log ≡ Some second

-- What the cause says of the two drives. If the sync failed or was refused, the first file may lack records. If nothing was
-- written to the second file, or its drive failed, the first file has all changes. Else the second log has all objects, and
-- the first log was cleared, or its drive failed while it was.
abbrev pub EndsRotation : {D : Type 0} → (D → Drive) → ℕ → (List (List Bool) → Type 0) → Known → D → D → D → EndCause → Type 0
EndsRotation drive w Are old spare first second (Unsynced cause) = ClosesUnsynced drive w old first cause × (second ≡ spare)
EndsRotation drive w Are old spare first second (Refused cause) =
    ClosesStore drive w (λ start. ⊤) old first × (failed_cell old.seen ≡ None) × RefusesAnew drive w Are None (world_left old.origin old.seen) spare second cause
EndsRotation drive w Are old spare first second Unsure =
    ClosesStore drive w (λ start. ⊤) old first × (failed_cell old.seen ≡ None) × IsUnsure drive w Are None (world_left old.origin old.seen) spare second
EndsRotation drive w Are old spare first second Uncleared = IsMoved drive w Are (λ count. FailsToClear) old spare first second
EndsRotation drive w Are old spare first second Memory = IsMoved drive w Are Clears old spare first second

-- The cause if no log was begun on the second drive.
abbrev pub ended_by : BeginCause → EndCause
ended_by (begun.Refused cause) = Refused cause
ended_by begun.Unsure = Unsure

-- The cause if a store that writes each record at once doesn't continue over a second file.
abbrev pub end_cause : {I D P : Type 0} → NotRotated I D P → EndCause
end_cause (back.Kept store pass left cause) = Refused cause
end_cause (back.Unsure disk left) = Unsure
end_cause (back.Uncleared book left) = Uncleared
end_cause (back.Memory book left) = Memory

-- The old log was cleared, and a store was created from the book, whose records wait for a sync.
pub record FinishesAtSync {D : Type 0} (drive : D → Drive) (b : BookView D) (log : Option (LogView D)) (lock : TableId) (pass : Known) (left : D) : Type 0 where
  pub pass_is : pass ≡ first_pass lock (waiting_origin (origin_of drive b))
  pub leaves : LeavesView drive Clears log left

-- No store was created. The book's drive is the second one.
pub record EndsAt {D : Type 0} (drive : D → Drive) (Came : ℕ → Drive → Drive → Type 0) (b : BookView D) (log : Option (LogView D)) (first second : D) : Type 0 where
  pub disk_is : disk_in b.log ≡ Some second
  pub leaves : LeavesView drive Came log first

abbrev pub EndsBy : {D : Type 0} → (D → Drive) → BookView D → Option (LogView D) → D → D → EndCause → Type 0
EndsBy drive b log first second (Unsynced cause) = ⊥
EndsBy drive b log first second (Refused cause) = ⊥
EndsBy drive b log first second Unsure = ⊥
EndsBy drive b log first second Uncleared = EndsAt drive (λ count. FailsToClear) b log first second
EndsBy drive b log first second Memory = EndsAt drive Clears b log first second
