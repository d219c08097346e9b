-- What a batch leaves of its pass, and why it is refused.
use Rattle.std.specs.Prelude.{◌≡◌, ℕ, ◌-◌, true, false, List, ◌++◌, length, Option, Some, None, Result, Ok, Err, ⊤}
use Rattle.std.specs.List.{AllByRecursion, list_any, range_with_len}
use mathlib.Core.List.{IsPrefix}
use Rattle.plain_list.specs.declared.ops.Op.{Op}
use Rattle.plain_list.specs.declared.entries.Entry.{Entry}
use Rattle.plain_list.specs.Answer.{is_change}
use Rattle.plain_list.specs.Batch.{answers_to, batch_calls, batch_fails}
use Rattle.plain_list.specs.History.{world_after, call_count}
use Rattle.commit_book.specs.Batches.{entries_refusal, records_refusal, most_changes}
use Rattle.commit_book.specs.Refusals.{closed_refusal, first_of}
use Rattle.commit_book.specs.declared.book.batches.BatchDone.{BatchDone}
use Rattle.commit_book.specs.declared.faults.BookFault.{BookFault}
use Rattle.book_lock.specs.Ends.{EndsSplit}
use Rattle.book_lock.specs.Pass.{Known}
use Rattle.book_lock.specs.declared.origin.Origin.{Origin}
use Rattle.sessions.specs.Calls.{call_fault, next_full}
use Rattle.sessions.specs.Shared.{moves_of, waits_in}
use Rattle.sessions.specs.Steps.{all_parts, cells_at, IsCount, has_seen}
use Rattle.sessions.specs.declared.faults.CallFault.{CallFault}
use Rattle.sessions.specs.declared.faults.CallFault.TheVariants.{Closed, Disk, HistoryFull, LogFull, Memory}

-- The entry ends no split, so each pass may note it.
abbrev pub EndsNone : Entry → Type 0
EndsNone e = (n : ℕ) → EndsSplit e n → ⊥

-- The entries are those that were seen, and then some that end no split.
abbrev pub MayNoteAll : List Entry → List Entry → Type 0
MayNoteAll seen entries = (es : List Entry) × (entries ≡ seen ++ es) × AllByRecursion EndsNone es

-- A pass that holds the lock has seen all of these entries. Those that it had not seen before are its own.
abbrev pub has_noted : Known → List Entry → Known
has_noted old entries = record old { seen = entries; own = old.own ++ range_with_len (length old.seen) (length entries - length old.seen) }

-- The same pass, after it gave the lock back.
abbrev pub has_given_all : Known → List Entry → Known
has_given_all old entries = record (has_noted old entries) { holds = false }

-- The pass has seen this history and these entries after it. Exactly their positions are its own new ones.
abbrev pub has_added_all : Known → List Entry → List Entry → Known
has_added_all old before es = record old { seen = before ++ es; own = old.own ++ range_with_len (length before) (length es) }

-- Why a batch is refused after a history, with so many cells in the log: the book is closed, or the history or the log
-- has no room for it.
abbrev pub batch_cause : Origin → List Op → ℕ → List Entry → Option BookFault
batch_cause origin ops cells before = first_of (closed_refusal before) (first_of (entries_refusal origin.kept (length ops) before) (records_refusal (most_changes ops) cells))

-- A fault that is free to come to a batch: the drive failed, or memory ran out before the step.
abbrev pub MayFail : CallFault → Type 0
MayFail (Closed cell) = ⊥
MayFail (Disk cell) = ⊤
MayFail HistoryFull = ⊥
MayFail LogFull = ⊥
MayFail (Memory None) = ⊤
MayFail (Memory (Some place)) = ⊥

-- The batch is refused for this cause. If there is none, it is done, or a fault came that is free to come.
abbrev pub IsApplied : Option BookFault → Result BatchDone CallFault → Type 0
IsApplied (Some cause) result = result ≡ Err (call_fault cause)
IsApplied None (Ok done) = ⊤
IsApplied None (Err fault) = MayFail fault

-- The place of the last call that was seen, the answer of one list to each operation at its place, and the leaf that is
-- to be split next.
pub record HasDoneAll (w : ℕ) (old new : Known) (ops : List Op) (before : List Entry) (done : BatchDone) : Type 0 where
  pub place_is : done.place ≡ call_count new.seen
  pub answers_are : done.answers.items ≡ answers_to (world_after old.origin.world before) ops
  pub full_is : done.full ≡ next_full w new

-- The append failed. The history ends with the lost changes, of which there is one at least. If no record waits for a
-- sync, and no fresh log may replace the log, the cell is the first one of the batch.
pub record HasLost (session row : ℕ) (ops : List Op) (old new : Known) (before : List Entry) (cell : ℕ) : Type 0 where
  pub added : new ≡ has_added_all old before (batch_fails cell (world_after old.origin.world before) session row ops)
  pub cell_is : waits_in old.origin ≡ false → moves_of old.origin ≡ false → cell ≡ cells_at old.origin before
  pub change : list_any is_change (answers_to (world_after old.origin.world before) ops) ≡ true

-- What a batch leaves. Its calls or its lost changes are the last that was seen, with no other entry between them, and
-- are the pass's own. Every other refusal adds nothing.
abbrev pub BatchLeaves : ℕ → ℕ → ℕ → List Op → Known → List Entry → Known → Result BatchDone CallFault → Type 0
BatchLeaves w session row ops old before new (Ok done) = (new ≡ has_added_all old before (batch_calls session row ops)) × HasDoneAll w old new ops before done
BatchLeaves w session row ops old before new (Err (Disk cell)) = HasLost session row ops old new before cell
BatchLeaves w session row ops old before new (Err (Closed cell)) = new ≡ has_seen old before
BatchLeaves w session row ops old before new (Err HistoryFull) = new ≡ has_seen old before
BatchLeaves w session row ops old before new (Err LogFull) = new ≡ has_seen old before
BatchLeaves w session row ops old before new (Err (Memory place)) = new ≡ has_seen old before

-- A batch: the history that was seen under the lock, the number of cells in the log then, the cause for which the batch is
-- refused there, and what it leaves.
pub record Applied (w session row : ℕ) (ops : List Op) (old new : Known) (result : Result BatchDone CallFault) : Type 0 where
  pub before : List Entry
  pub later : IsPrefix old.seen before
  pub alone : old.parts ≡ all_parts → before ≡ old.seen
  pub cells : ℕ
  pub counted : IsCount old.origin before cells
  pub answered : IsApplied (batch_cause old.origin ops cells before) result
  pub leaves : BatchLeaves w session row ops old before new result
