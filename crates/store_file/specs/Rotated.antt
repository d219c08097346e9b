-- A store that continues over a second file. Its objects were written there as a fresh log, with its leaves or with new
-- ones.
use Rattle.std.specs.Prelude.{◌≡◌, ℕ, ◌<◌, ◌≤◌, false, Bool, List, [], length, Option, Some, None, ⊤}
use Rattle.atomic_table.specs.Seated.{TableId}
use Rattle.cell_format.specs.declared.cell.Cell.{Cell}
use Rattle.disk_trait.specs.Drive.{Drive}
use Rattle.index_layer.specs.Leaves.{Leaf, names_of}
use Rattle.plain_list.specs.declared.entries.Entry.{Entry}
use Rattle.plain_list.specs.World.{World, IsWorld}
use Rattle.plain_list.specs.History.{world_after, failed_cell}
use Rattle.plain_list.specs.State.{state_after}
use Rattle.split_log.specs.LogView.{most_cells}
use Rattle.split_log.specs.LogView.{LogView}
use Rattle.recovery.specs.declared.seen.Seen.{Seen}
use Rattle.recovery.specs.Found.{Finds}
use Rattle.kept_log.specs.Journal.{written_in, disk_in}
use Rattle.commit_book.specs.OpenedLog.{IsOpenedLog}
use Rattle.commit_book.specs.IsBook.{IsBook}
use Rattle.commit_book.specs.declared.faults.BookFault.{BookFault}
use Rattle.commit_book.specs.declared.faults.BookFault.TheVariants as book
use Rattle.book_lock.specs.Own.{times, once_below}
use Rattle.book_lock.specs.Pass.{Known}
use Rattle.book_lock.specs.declared.origin.Origin.{Origin}
use Rattle.commit_book.specs.BookView.{BookView}
use Rattle.log_compact.specs.declared.compacting.CompactFault.{CompactFault}
use Rattle.log_compact.specs.declared.compacting.CompactFault.TheVariants as compact
use Rattle.log_compact.specs.Compacting.{IsCompacted, RefusesCompact, KeepsOnWay}
use Rattle.log_compact.specs.Fresh.{fresh_cells}
use Rattle.log_compact.specs.State.{IsStateOf}
use Rattle.sessions.specs.Shared.{HasWorld, StartsAs, origin_of, start_of}
use Rattle.store_file.specs.declared.rotating.RotateCause.{RotateCause}
use Rattle.store_file.specs.declared.rotating.RotateCause.TheVariants.{Closed, InUse, TooLong, Memory}
use Rattle.store_file.specs.declared.rotating.BeginCause.{BeginCause}
use Rattle.store_file.specs.declared.rotating.BeginCause.TheVariants as begun
use Rattle.store_file.specs.declared.rotating.NotRotated.{NotRotated}
use Rattle.store_file.specs.declared.rotating.NotRotated.TheVariants as back
use Rattle.log_compact.specs.Clearing.{Clears, FailsToClear, KeepsOrClears}
use Rattle.store_file.specs.Closed.{ClosesStore}
use Rattle.point_table.specs.Sized.{FitsSize, StandsBySize}
use Rattle.store_file.specs.Opened.{first_pass, cells_origin, found_origin}

-- The objects that a history left, and the names of the leaves.
abbrev pub world_left : Origin → List Entry → World
world_left origin seen = world_after origin.world seen

abbrev pub leaves_left : ℕ → Origin → List Entry → List (List Bool)
leaves_left w origin seen = (state_after w (start_of origin) seen).leaves

-- The cells of a fresh log of these objects, with such leaves.
abbrev pub cells_left : ℕ → Origin → List Entry → List (List Bool) → List Cell
cells_left w origin seen leaves = fresh_cells w (world_left origin seen) leaves

-- The leaves that a history left, or those that the bucket size requires for the objects that it left.
abbrev pub AreLeft : ℕ → Origin → List Entry → List (List Bool) → Type 0
AreLeft w origin seen leaves = leaves ≡ leaves_left w origin seen

abbrev pub AreAnew : ℕ → Origin → List Entry → List (List Bool) → Type 0
AreAnew w origin seen leaves = FitsSize w origin.bucket (world_left origin seen) leaves

-- A store continues from the place where this pass saw its history end. The first log is closed: no append has failed,
-- and it keeps the history. Only then was the second log begun, as a fresh log of the objects that the history left,
-- with such leaves. The new store begins with that log. At each moment of the writing a crash leaves an image on the
-- way to the fresh log. After the writing it leaves exactly these cells.
pub record RotatesTo {D : Type 0} (drive : D → Drive) (w : ℕ) (Are : List (List Bool) → Type 0) (old : Known) (last spare : D) (origin : Origin) (count : ℕ) : Type 0 where
  pub closed : ClosesStore drive w (λ start. ⊤) old last
  -- The number of cells that the first log has.
  pub counted : closed.log.cells ≡ count
  pub good : failed_cell old.seen ≡ None
  pub start : D
  pub compacted : IsCompacted w (cells_left w old.origin old.seen origin.leaves) (drive spare) (drive start)
  pub on_way : KeepsOnWay w (cells_left w old.origin old.seen origin.leaves) (drive spare) (drive start)
  pub state : IsStateOf w (cells_left w old.origin old.seen origin.leaves) (world_left old.origin old.seen) origin.leaves
  pub few : length (cells_left w old.origin old.seen origin.leaves) ≤ most_cells
  pub origin_is : origin ≡ cells_origin old.origin.kept w old.origin.bucket (cells_left w old.origin old.seen origin.leaves) (drive start)
  pub world_is : origin.world ≡ world_left old.origin old.seen
  pub leaves_are : Are origin.leaves
  pub world : IsWorld origin.world

-- The result of clearing a log of `count` cells. At each moment a crash leaves all of them, or none.
pub record LeavesLog {D : Type 0} (drive : D → Drive) (Came : ℕ → Drive → Drive → Type 0) (count : ℕ) (last left : D) : Type 0 where
  pub came : Came count (drive last) (drive left)
  pub keeps : KeepsOrClears (drive last) (drive left)

-- The new store and its first pass. The log of the first drive no longer has any cells.
pub record IsRotated {D : Type 0} (drive : D → Drive) (w : ℕ) (Are : List (List Bool) → Type 0) (old : Known) (spare : D) (lock : TableId) (pass : Known) (left : D) : Type 0 where
  pub last : D
  pub count : ℕ
  pub to : RotatesTo drive w Are old last spare pass.origin count
  pub pass_is : pass ≡ first_pass lock pass.origin
  pub leaves : LeavesLog drive Clears count last left

-- Only the book, which continues over the second log, and has no entries.
pub record IsRotatedAlone {D : Type 0} (drive : D → Drive) (w : ℕ) (Are : List (List Bool) → Type 0) (Came : ℕ → Drive → Drive → Type 0) (old : Known) (spare : D) (b : BookView D) (left : D) : Type 0 where
  pub last : D
  pub count : ℕ
  pub to : RotatesTo drive w Are old last spare (origin_of drive b) count
  pub none : b.entries ≡ []
  pub has : HasWorld b
  pub starts : StartsAs drive ⊥ (λ start waits moves. (waits ≡ false) × (moves ≡ false)) b.log
  pub leaves : LeavesLog drive Came count last left

-- The book of a store that was closed with this pass.
pub record IsClosedBook {D : Type 0} (drive : D → Drive) (w : ℕ) (pass : Known) (b : BookView D) : Type 0 where
  pub book : IsBook drive w b
  pub value : (b.entries ≡ pass.seen) × (origin_of drive b ≡ pass.origin)
  pub own : (p : ℕ) → times p pass.own ≡ once_below p (length pass.seen)
  pub starts : StartsAs drive ⊥ (λ start waits moves. (waits ≡ false) × (moves ≡ false)) b.log
  pub has : HasWorld b

-- The cause if a store returns no content.
abbrev pub content_cause : BookFault → RotateCause
content_cause (book.Closed cell) = Closed cell
content_cause _ = Memory

-- The cause that a fault of the fresh log is reported as.
abbrev pub begin_cause : CompactFault → BeginCause
begin_cause (compact.InUse len) = begun.Refused (InUse len)
begin_cause compact.Disk = begun.Unsure

-- A fresh log wasn't written, because of this fault. Either the file has more than 17 bytes and is unchanged, or the
-- drive failed.
pub record NotAnew {D : Type 0} (drive : D → Drive) (w : ℕ) (Are : List (List Bool) → Type 0) (world : World) (spare left : D) (fault : CompactFault) : Type 0 where
  pub leaves : List (List Bool)
  pub leaves_are : Are leaves
  pub refuses : RefusesCompact (drive spare) (drive left) fault
  pub on_way : KeepsOnWay w (fresh_cells w world leaves) (drive spare) (drive left)

-- The fresh log of the objects with such leaves would have more cells than a log may have.
pub record IsTooLong (w : ℕ) (Are : List (List Bool) → Type 0) (world : World) : Type 0 where
  pub leaves : List (List Bool)
  pub leaves_are : Are leaves
  pub many : most_cells < length (fresh_cells w world leaves)

-- Why a store doesn't continue over the second drive, on which nothing was written. Either an append of the store has
-- failed, or memory ran out. Or the objects and leaves are too many for a log. Or the second file is longer than a log
-- of no cells.
abbrev pub RefusesAnew : {D : Type 0} → (D → Drive) → ℕ → (List (List Bool) → Type 0) → Option ℕ → World → D → D → RotateCause → Type 0
RefusesAnew drive w Are failed world spare left (Closed cell) = (failed ≡ Some cell) × (left ≡ spare)
RefusesAnew drive w Are failed world spare left Memory = (failed ≡ None) × (left ≡ spare)
RefusesAnew drive w Are failed world spare left TooLong = (failed ≡ None) × (left ≡ spare) × IsTooLong w Are world
RefusesAnew drive w Are failed world spare left (InUse len) = (failed ≡ None) × NotAnew drive w Are world spare left (compact.InUse len)

-- The second drive failed. At each moment a crash leaves an image on the way to the fresh log there, which may be the
-- whole log.
abbrev pub IsUnsure : {D : Type 0} → (D → Drive) → ℕ → (List (List Bool) → Type 0) → Option ℕ → World → D → D → Type 0
IsUnsure drive w Are failed world spare left = (failed ≡ None) × NotAnew drive w Are world spare left compact.Disk

-- Either of the two: a refusal, or a failure of the second drive.
abbrev pub NotBegins : {D : Type 0} → (D → Drive) → ℕ → (List (List Bool) → Type 0) → Option ℕ → World → D → D → BeginCause → Type 0
NotBegins drive w Are failed world spare left (begun.Refused cause) = RefusesAnew drive w Are failed world spare left cause
NotBegins drive w Are failed world spare left begun.Unsure = IsUnsure drive w Are failed world spare left

-- What is returned if no log was begun. If nothing was written there, it is the unchanged store with its pass, and the
-- second drive. Otherwise the store was closed, and both drives are returned.
abbrev pub ComesBack : {I D P : Type 0} → (D → Drive) → ℕ → Known → D → BeginCause → NotRotated I D P → Type 0
ComesBack drive w pass left (begun.Refused cause) e = e ≡ back.Kept pass.lock pass left cause
ComesBack {D = D} drive w pass left begun.Unsure e = (disk : D) × (e ≡ back.Unsure disk left) × ClosesStore drive w (λ start. ⊤) pass disk

-- What is returned if the store doesn't continue over the second drive. If nothing was written there, it is the same
-- store, with its pass unchanged. If the second drive failed, the store was closed, and its log keeps the history. Else it
-- is the book over the second log: the first drive failed while its log was cleared, or memory ran out after that.
abbrev pub IsNotRotated : {I D P : Type 0} → (D → Drive) → ℕ → (List (List Bool) → Type 0) → Known → D → NotRotated I D P → Type 0
IsNotRotated drive w Are old spare (back.Kept store pass left cause) =
    (store ≡ old.lock) × (pass ≡ old) × RefusesAnew drive w Are (failed_cell old.seen) (world_left old.origin old.seen) spare left cause
IsNotRotated drive w Are old spare (back.Unsure disk left) =
    ClosesStore drive w (λ start. ⊤) old disk × IsUnsure drive w Are (failed_cell old.seen) (world_left old.origin old.seen) spare left
IsNotRotated drive w Are old spare (back.Uncleared book left) = IsRotatedAlone drive w Are (λ count. FailsToClear) old spare book left
IsNotRotated drive w Are old spare (back.Memory book left) = IsRotatedAlone drive w Are Clears old spare book left

-- A fresh log was begun on this drive. `seen` is what its opening finds, and `start` is the drive at that moment.
pub record BeginsFresh {D : Type 0} (drive : D → Drive) (w : ℕ) (spare : D) (seen : Seen) (start : D) (log : LogView D) : Type 0 where
  pub finds : Finds w (fresh_cells w seen.world seen.leaves) seen
  pub few : length (fresh_cells w seen.world seen.leaves) ≤ most_cells
  pub state : IsStateOf w (fresh_cells w seen.world seen.leaves) seen.world seen.leaves
  pub opened : IsOpenedLog drive w seen start log
  pub compacted : IsCompacted w (fresh_cells w seen.world seen.leaves) (drive spare) (drive start)
  pub on_way : KeepsOnWay w (fresh_cells w seen.world seen.leaves) (drive spare) (drive start)

-- The fresh log is that of the objects that the history of a pass left, with such leaves. No append has failed.
pub record BeginsOf {D : Type 0} (drive : D → Drive) (w : ℕ) (Are : List (List Bool) → Type 0) (pass : Known) (spare : D) (seen : Seen) (start : D) (log : LogView D) : Type 0 where
  pub good : failed_cell pass.seen ≡ None
  pub world : seen.world ≡ world_left pass.origin pass.seen
  pub leaves_are : Are seen.leaves
  pub begins : BeginsFresh drive w spare seen start log

-- The leaves are those that the history left.
abbrev pub BeginsLeft : {D : Type 0} → (D → Drive) → ℕ → Known → D → Seen → D → LogView D → Type 0
BeginsLeft drive w pass spare seen start log = BeginsOf drive w (AreLeft w pass.origin pass.seen) pass spare seen start log

-- The leaves are new ones, which the bucket size requires.
pub record BeginsAnew {D : Type 0} (drive : D → Drive) (w : ℕ) (pass : Known) (spare : D) (leaves : List Leaf) (seen : Seen) (start : D) (log : LogView D) : Type 0 where
  pub names : seen.leaves ≡ names_of leaves
  pub stands : StandsBySize w pass.origin.bucket (world_left pass.origin pass.seen) leaves
  pub begins : BeginsOf drive w (AreAnew w pass.origin pass.seen) pass spare seen start log

-- The result of clearing the log of a book.
pub record LeavesOf {D : Type 0} (drive : D → Drive) (Came : ℕ → Drive → Drive → Type 0) (b : BookView D) (left : D) : Type 0 where
  pub last : D
  pub last_is : disk_in b.log ≡ Some last
  pub leaves : LeavesLog drive Came (written_in b.log) last left

-- A store continues from a book over another log, and the old log was cleared. `seen` was found in the other log, and
-- `start` is its drive at that moment.
pub record GoesOn {D : Type 0} (drive : D → Drive) (b : BookView D) (seen : Seen) (start : D) (lock : TableId) (pass : Known) (left : D) : Type 0 where
  pub pass_is : pass ≡ first_pass lock (found_origin b.kept b.bucket seen (drive start))
  pub leaves : LeavesOf drive Clears b left

-- A book alone continues in the same way.
pub record GoesAlone {D : Type 0} (drive : D → Drive) (Came : ℕ → Drive → Drive → Type 0) (b : BookView D) (seen : Seen) (start : D) (new : BookView D) (left : D) : Type 0 where
  pub origin_is : origin_of drive new ≡ found_origin b.kept b.bucket seen (drive start)
  pub none : new.entries ≡ []
  pub has : HasWorld new
  pub starts : StartsAs drive ⊥ (λ start waits moves. (waits ≡ false) × (moves ≡ false)) new.log
  pub leaves : LeavesOf drive Came b left

abbrev pub GoesNot : {I D P : Type 0} → (D → Drive) → BookView D → Seen → D → NotRotated I D P → Type 0
GoesNot drive b seen start (back.Kept store pass left cause) = ⊥
GoesNot drive b seen start (back.Unsure disk left) = ⊥
GoesNot drive b seen start (back.Uncleared book left) = GoesAlone drive (λ count. FailsToClear) b seen start book left
GoesNot drive b seen start (back.Memory book left) = GoesAlone drive Clears b seen start book left

-- The result of clearing a log that was returned.
pub record LeavesView {D : Type 0} (drive : D → Drive) (Came : ℕ → Drive → Drive → Type 0) (log : Option (LogView D)) (left : D) : Type 0 where
  pub view : LogView D
  pub view_is : log ≡ Some view
  pub came : Came view.cells (drive view.disk) (drive left)
  pub keeps : KeepsOrClears (drive view.disk) (drive left)

-- A store was created from a book, after the old log was cleared.
pub record Finishes {D : Type 0} (drive : D → Drive) (b : BookView D) (log : Option (LogView D)) (lock : TableId) (pass : Known) (left : D) : Type 0 where
  pub pass_is : pass ≡ first_pass lock (origin_of drive b)
  pub leaves : LeavesView drive Clears log left

-- No store was created, and the book is returned.
pub record FinishesAlone {D : Type 0} (drive : D → Drive) (Came : ℕ → Drive → Drive → Type 0) (b : BookView D) (log : Option (LogView D)) (new : BookView D) (left : D) : Type 0 where
  pub book_is : new ≡ b
  pub leaves : LeavesView drive Came log left

abbrev pub FinishesNot : {I D P : Type 0} → (D → Drive) → BookView D → Option (LogView D) → NotRotated I D P → Type 0
FinishesNot drive b log (back.Kept store pass left cause) = ⊥
FinishesNot drive b log (back.Unsure disk left) = ⊥
FinishesNot drive b log (back.Uncleared book left) = FinishesAlone drive (λ count. FailsToClear) b log book left
FinishesNot drive b log (back.Memory book left) = FinishesAlone drive Clears b log book left
