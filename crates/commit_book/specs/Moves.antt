-- A book whose log a fresh one replaces, and why it may not.
use Rattle.std.specs.Prelude.{◌≡◌, ℕ, ◌-◌, nat_lt, Bool, true, List, [], ◌∷◌, ◌++◌, if◌then◌else◌, Option, Some, None}
use Rattle.std.specs.Option.{option_map}
use Rattle.plain_list.specs.State.{State, OpenSplit, state_after}
use Rattle.plain_list.specs.History.{failed_cell}
use Rattle.plain_list.specs.declared.entries.Entry.TheVariants.{Fail}
use Rattle.plain_list.specs.declared.entries.Lost.{Lost}
use Rattle.plain_list.specs.declared.entries.Lost.TheVariants.{Call}
use Rattle.plain_list.specs.declared.ops.Op.TheVariants.{Find}
use Rattle.split_log.specs.LogView.{LogView}
use Rattle.recovery.specs.declared.seen.Seen.{Seen}
use Rattle.kept_log.specs.Journal.{cells_in, disk_in, moved_to, written_in}
use Rattle.commit_book.specs.BookView.{BookView}
use Rattle.commit_book.specs.Refusals.{IsMemory, first_of, call_refusal}
use Rattle.commit_book.specs.declared.faults.BookFault.{BookFault}
use Rattle.commit_book.specs.declared.faults.BookFault.TheVariants as book
use Rattle.commit_book.specs.declared.faults.MoveFault.{MoveFault}
use Rattle.commit_book.specs.declared.faults.MoveFault.TheVariants.{Closed, Splitting, Ahead}

-- the number of the split that began first of those that are open
abbrev pub first_open : List OpenSplit → Option ℕ
first_open [] = None
first_open (split ∷ splits) = Some split.number

-- a split is open, or more splits have begun in the fresh log
abbrev pub splits_refusal : State → ℕ → Option ℕ → Option MoveFault
splits_refusal s begun (Some number) = Some (Splitting number)
splits_refusal s begun None = if nat_lt s.begun begun then Some (Ahead begun) else None

-- an append has failed, or the splits are in the way
abbrev pub move_cause : State → ℕ → Option ℕ → Option MoveFault
move_cause s begun (Some cell) = Some (Closed cell)
move_cause s begun None = splits_refusal s begun (first_open s.splits)

-- why a fresh log in which this many splits have begun may not replace the log of a book: the first cause that applies
abbrev pub move_refusal : {D : Type 0} → ℕ → BookView D → ℕ → Option MoveFault
move_refusal w b begun = move_cause (state_after w b.opening b.entries) begun (failed_cell b.entries)

-- The book with a log in place of its own, that was opened on the drive `start`. All else is as before. The log keeps the
-- entries that come after those of the book, with its own numbers of splits: it begins at as many as were found in it.
abbrev pub with_fresh_log : {D : Type 0} → ℕ → Seen → LogView D → D → BookView D → BookView D
with_fresh_log w seen log start b =
    record b { log = option_map (moved_to b.entries ((state_after w b.opening b.entries).begun - seen.begun) log start) b.log }

-- why no fresh log may replace the log of a book, even if no more splits have begun in it
abbrev pub may_move_refusal : {D : Type 0} → ℕ → BookView D → Option BookFault
may_move_refusal w b = first_of (call_refusal b.kept b.entries) (option_map book.Splitting (first_open (state_after w b.opening b.entries).splits))

-- the step that a stopped book has lost: a find, which has no record
abbrev pub lost_stop : Lost
lost_stop = Call 0 0 (Find 0)

-- The book is closed. The history ends with a failed append, which names the number of records in the file. Drive, records
-- and leaves are as before.
pub record StopsBook {D : Type 0} (old new : BookView D) : Type 0 where
  pub entries : new.entries ≡ old.entries ++ Fail (written_in old.log) lost_stop ∷ []
  pub leaves : new.leaves ≡ old.leaves
  pub disk : disk_in new.log ≡ disk_in old.log
  pub cells : cells_in new.log ≡ cells_in old.log

-- memory ran out, and the book keeps the list of its entries
abbrev pub IsListMemory : Bool → BookFault → Type 0
IsListMemory kept fault = (kept ≡ true) × IsMemory fault
