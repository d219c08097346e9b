-- What a batch of operations returns, why it is refused, and what it leaves.
use Rattle.std.specs.Prelude.{◌≡◌, ℕ, ◌+◌, nat_lt, Bool, true, not, List, ◌++◌, length, if◌then◌else◌, Option, Some, None}
use Rattle.std.specs.List.{count_by, list_any}
use Rattle.plain_list.specs.declared.ops.Op.{Op}
use Rattle.plain_list.specs.declared.ops.Answer.{Answer}
use Rattle.plain_list.specs.declared.entries.Entry.{Entry}
use Rattle.plain_list.specs.Answer.{is_change}
use Rattle.plain_list.specs.Batch.{answers_to, batch_calls, batch_fails}
use Rattle.plain_list.specs.History.{world_after, call_count, failed_cell}
use Rattle.plain_list.specs.State.{state_after}
use Rattle.plain_list.specs.Size.{full_leaf}
use Rattle.disk_trait.specs.Drive.{Drive}
use Rattle.point_table.specs.Changes.{AreSettled}
use Rattle.kept_log.specs.Journal.{cells_in, written_in, RoseIn, LeavesAllOrNone}
use Rattle.commit_book.specs.Answers.{is_ask}
use Rattle.commit_book.specs.BookView.{BookView}
use Rattle.commit_book.specs.IsBook.{most_events}
use Rattle.commit_book.specs.Refusals.{closed_refusal, first_of, most_cells}
use Rattle.commit_book.specs.declared.faults.BookFault.{BookFault}
use Rattle.commit_book.specs.declared.faults.BookFault.TheVariants.{Disk, HistoryFull, LogFull}

-- The history has one more entry for each operation, in their order, and the place is the number of the last call. The
-- answers are those of the plain list, each at its place. `full` is the leaf to split next. A leaf that changed has no
-- delta, unless its split is open.
pub record RepliesAll {D : Type 0} (w : ℕ) (old new : BookView D) (session row : ℕ) (ops : List Op) (place : ℕ) (answers : List Answer) (full : Option (List Bool)) : Type 0 where
  pub entries : new.entries ≡ old.entries ++ batch_calls session row ops
  pub place_is : place ≡ call_count new.entries
  pub answers_are : answers ≡ answers_to (world_after old.opening.world old.entries) ops
  pub full_is : full ≡ full_leaf w new.bucket (state_after w new.opening new.entries)
  pub settled : AreSettled (state_after w old.opening old.entries).splits old.leaves new.leaves

-- How many records a batch may need: one for each put, move and removal. Whether such an operation changes the world is
-- known only once those before it are made.
abbrev pub most_changes : List Op → ℕ
most_changes ops = count_by (λ (op : Op). not (is_ask op)) ops

-- the history has no room for this many more entries
abbrev pub entries_refusal : Bool → ℕ → List Entry → Option BookFault
entries_refusal kept more entries = if nat_lt (most_events kept) (length entries + more) then Some HistoryFull else None

-- the log has no room for this many more records
abbrev pub records_refusal : ℕ → ℕ → Option BookFault
records_refusal more cells = if nat_lt most_cells (cells + more) then Some LogFull else None

-- why a batch is refused; an empty one is refused by a closed book alone
abbrev pub batch_refusal : {D : Type 0} → BookView D → List Op → Option BookFault
batch_refusal b ops =
    first_of (closed_refusal b.entries) (first_of (entries_refusal b.kept (length ops) b.entries) (records_refusal (most_changes ops) (cells_in b.log)))

-- The append of the batch's records failed, and of those that waited before them. `cell` is the number of records in the
-- file before: the first record that the file may lack. The history ends with a failed append for each operation that
-- would have changed the world. There is one at least. The book is closed.
pub record ClosesAll {D : Type 0} (drive : D → Drive) (session row : ℕ) (ops : List Op) (old new : BookView D) (cell : ℕ) : Type 0 where
  pub entries : new.entries ≡ old.entries ++ batch_fails cell (world_after old.opening.world old.entries) session row ops
  pub cell_is : cell ≡ written_in old.log
  pub leaves : new.leaves ≡ old.leaves
  pub rose : RoseIn drive old.log new.log
  pub change : list_any is_change (answers_to (world_after old.opening.world old.entries) ops) ≡ true

-- what a refused batch leaves: a closed book if the drive failed, and else the unchanged book
abbrev pub LeavesRefusedAll : {D : Type 0} → (D → Drive) → ℕ → ℕ → List Op → BookView D → BookView D → BookFault → Type 0
LeavesRefusedAll drive session row ops old new (Disk cell) = ClosesAll drive session row ops old new cell
LeavesRefusedAll drive session row ops old new _ = new ≡ old

-- At every moment of a batch a crash leaves the records of the entries before it that were written, or those of all
-- entries before it and of all its own. This holds if no append had failed and the log's content at its opening is known.
abbrev pub LeavesAllCells : {D : Type 0} → (D → Drive) → ℕ → List Entry → BookView D → BookView D → Type 0
LeavesAllCells drive w es old new = failed_cell old.entries ≡ None → LeavesAllOrNone drive w old.opening old.entries es old.log new.log
