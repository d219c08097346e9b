-- What a call leaves of its pass, and why it is refused.
use Rattle.std.specs.Prelude.{◌≡◌, ℕ, Bool, true, ◌==◌, ◌&&◌, List, if◌then◌else◌, Option, Some, None, Result, Ok, Err, IfErr, ⊤}
use mathlib.Core.List.{IsPrefix}
use Rattle.plain_list.specs.declared.ops.Op.{Op}
use Rattle.plain_list.specs.declared.ops.Op.TheVariants.{Put, Move, Remove, Find, Within, Near}
use Rattle.plain_list.specs.declared.ops.Answer.{Answer}
use Rattle.plain_list.specs.declared.entries.Entry.{Entry}
use Rattle.plain_list.specs.declared.entries.Entry.TheVariants.{Call, Fail}
use Rattle.plain_list.specs.declared.entries.Lost.TheVariants as lost
use Rattle.plain_list.specs.Answer.{answer_of, is_change}
use Rattle.plain_list.specs.History.{world_after, call_count}
use Rattle.plain_list.specs.State.{state_after}
use Rattle.plain_list.specs.Size.{full_leaf}
use Rattle.plain_list.specs.World.{World, places_of, IsWorld}
use Rattle.index_layer.specs.Leaves.{Leaf}
use Rattle.index_layer.specs.Stands.{Stands}
use Rattle.disk_trait.specs.Drive.{Drive}
use Rattle.commit_book.specs.declared.book.Done.{Done}
use Rattle.commit_book.specs.declared.book.Snapshot.{Snapshot}
use Rattle.commit_book.specs.declared.faults.BookFault.{BookFault}
use Rattle.commit_book.specs.declared.faults.BookFault.TheVariants as book
use Rattle.commit_book.specs.Answers.{IsUpdate, IsQuery}
use Rattle.commit_book.specs.Refusals.{IsMemory, IsMemoryOrDisk, first_of, call_refusal, most_cells}
use Rattle.book_lock.specs.Pass.{Known}
use Rattle.book_lock.specs.declared.origin.Origin.{Origin}
use Rattle.sessions.specs.Shared.{start_of}
use Rattle.sessions.specs.Opens.{leaves_seen, places_seen, listed_by, Opens, OpensRefused}
use Rattle.sessions.specs.Splits.{SamePass}
use Rattle.sessions.specs.Syncs.{Stood}
use Rattle.sessions.specs.Steps.{all_parts, IsCount, IsStep, has_added, has_seen}
use Rattle.sessions.specs.declared.faults.CallFault.{CallFault}
use Rattle.sessions.specs.declared.faults.CallFault.TheVariants.{Closed, Disk, HistoryFull, LogFull, Memory}

-- Why a call is refused after a history, with so many cells in the log. The book is closed, or its history is full, or
-- the log is full and the call would change an object.
abbrev pub call_cause : Origin → Op → ℕ → List Entry → Option BookFault
call_cause origin op cells before =
    first_of (call_refusal origin.kept before) (if (cells == most_cells) && is_change (answer_of (world_after origin.world before) op) then Some book.LogFull else None)

-- A fault that a call may return.
abbrev pub IsCallFault : BookFault → Type 0
IsCallFault (book.Closed cell) = ⊤
IsCallFault (book.Disk cell) = ⊤
IsCallFault book.HistoryFull = ⊤
IsCallFault book.LogFull = ⊤
IsCallFault book.Memory = ⊤
IsCallFault (book.Room cells events) = ⊥
IsCallFault (book.Splitting number) = ⊥
IsCallFault book.Deep = ⊥
IsCallFault book.NoLeaf = ⊥
IsCallFault (book.Stale number) = ⊥
IsCallFault (book.NotOpen number) = ⊥

-- What a call returns for a fault of the book.
abbrev pub call_fault : BookFault → CallFault
call_fault (book.Closed cell) = Closed cell
call_fault (book.Disk cell) = Disk cell
call_fault book.HistoryFull = HistoryFull
call_fault book.LogFull = LogFull
call_fault book.Memory = Memory None
call_fault (book.Room cells events) = Memory None
call_fault (book.Splitting number) = Memory None
call_fault book.Deep = Memory None
call_fault book.NoLeaf = Memory None
call_fault (book.Stale number) = Memory None
call_fault (book.NotOpen number) = Memory None

-- A fault that no cause explains. The drive fails only a change or a find. Only a query may run out of memory after its
-- entry.
abbrev pub MayCome : Op → CallFault → Type 0
MayCome op (Closed cell) = ⊥
MayCome op (Disk cell) = IsUpdate op
MayCome op HistoryFull = ⊥
MayCome op LogFull = ⊥
MayCome op (Memory None) = ⊤
MayCome op (Memory (Some place)) = IsQuery op

-- The call is refused for this cause. If there is no cause, it returns `Ok`, or a fault that may come at any time.
abbrev pub IsAnswered : Op → Option BookFault → Result Done CallFault → Type 0
IsAnswered op (Some cause) result = result ≡ Err (call_fault cause)
IsAnswered op None (Ok done) = ⊤
IsAnswered op None (Err fault) = MayCome op fault

-- The leaf to split next, after all that the pass has seen.
abbrev pub next_full : ℕ → Known → Option (List Bool)
next_full w pass = full_leaf w pass.origin.bucket (state_after w (start_of pass.origin) pass.seen)

-- The leaf that a call returns. Queries return none.
abbrev pub told_full : ℕ → Op → Known → Option (List Bool)
told_full w (Put id at moment) pass = next_full w pass
told_full w (Move id at moment) pass = next_full w pass
told_full w (Remove id) pass = next_full w pass
told_full w (Find id) pass = next_full w pass
told_full w (Within region) pass = None
told_full w (Near at k) pass = None

-- The place is that of the last call that was seen. The answer is that of the plain list there.
pub record RepliesAt (old new : Known) (op : Op) (before : List Entry) (place : ℕ) (answer : Answer) : Type 0 where
  pub place_is : place ≡ call_count new.seen
  pub answer_is : answer ≡ answer_of (world_after old.origin.world before) op

-- The reply, and the leaf to split next.
pub record HasDone (w : ℕ) (old new : Known) (op : Op) (before : List Entry) (done : Done) : Type 0 where
  pub replies : RepliesAt old new op before done.place done.answer
  pub full_is : done.full ≡ told_full w op new

-- What a call leaves. Its entry, or the failure of its append, is the last one that was seen, and is the pass's own.
-- Only the append of a change fails.
abbrev pub CallLeaves : ℕ → ℕ → ℕ → Op → Known → List Entry → Known → Result Done CallFault → Type 0
CallLeaves w session row op old before new (Ok done) = (new ≡ has_added old before (Call session row op)) × HasDone w old new op before done
CallLeaves w session row op old before new (Err (Closed cell)) = new ≡ has_seen old before
CallLeaves w session row op old before new (Err (Disk cell)) = (new ≡ has_added old before (Fail cell (lost.Call session row op))) × (is_change (answer_of (world_after old.origin.world before) op) ≡ true)
CallLeaves w session row op old before new (Err HistoryFull) = new ≡ has_seen old before
CallLeaves w session row op old before new (Err LogFull) = new ≡ has_seen old before
CallLeaves w session row op old before new (Err (Memory None)) = new ≡ has_seen old before
CallLeaves w session row op old before new (Err (Memory (Some place))) = (new ≡ has_added old before (Call session row op)) × (place ≡ call_count new.seen)

-- A call: the history that the pass saw under the lock, the number of cells in the log then, why the call is refused
-- there, and what it leaves.
pub record Called (w session row : ℕ) (op : Op) (old new : Known) (result : Result Done CallFault) : Type 0 where
  pub before : List Entry
  pub later : IsPrefix old.seen before
  pub alone : old.parts ≡ all_parts → before ≡ old.seen
  pub cells : ℕ
  pub counted : IsCount old.origin before cells
  pub answered : IsAnswered op (call_cause old.origin op cells before) result
  pub leaves : CallLeaves w session row op old before new result

-- How often a call opened a bucket, over the leaves and objects that its pass has seen then.
abbrev pub OpensFor : ℕ → Op → Known → Result Done CallFault → ℕ → ℕ → Type 0
OpensFor w op new result before now = Opens op (leaves_seen w new) (places_seen new) (listed_by (λ (done : Done). done.answer) result) before now

-- What a call leaves of its pass and of the store's book, and how often it opened a bucket.
pub record CallEnds {D : Type 0} (drive : D → Drive) (w session row : ℕ) (op : Op) (old new : Known) (before now : ℕ) (result : Result Done CallFault) : Type 0 where
  pub called : Called w session row op old new result
  pub opened : OpensFor w op new result before now
  pub refused : IfErr result (λ fault. OpensRefused fault before now)
  pub pass : SamePass old new
  pub stood : Stood drive w new

-- If the append failed, it was that of a change.
abbrev pub LosesChange : {A : Type 0} → World → Op → Result A BookFault → Type 0
LosesChange world op (Err (book.Disk cell)) = is_change (answer_of world op) ≡ true
LosesChange world op _ = ⊤

-- A change or a find under the lock.
pub record Updates (w session row : ℕ) (op : Op) (old new : Known) (result : Result Done BookFault) : Type 0 where
  pub step : IsStep IsMemoryOrDisk (call_cause old.origin op) (λ done. Call session row op) (λ before. lost.Call session row op) (HasDone w old new op) old new result
  pub loses : LosesChange (world_after old.origin.world step.before) op result

-- These leaves of an index represent the world at the call.
pub record Shows (w : ℕ) (leaves : List Leaf) (old new : Known) (before : List Entry) (place : ℕ) : Type 0 where
  pub place_is : place ≡ call_count new.seen
  pub world : IsWorld (world_after old.origin.world before)
  pub stands : Stands leaves (places_of (world_after old.origin.world before)) (leaves_seen w new)

-- A query under the lock, which returns the index as it is there.
abbrev pub Looks : {I P : Type 0} → (I → List Leaf) → ℕ → ℕ → ℕ → Op → Known → Known → Result (Snapshot I P) BookFault → Type 0
Looks leaves w session row op old new result =
    IsStep IsMemory (λ cells. call_refusal old.origin.kept) (λ shown. Call session row op) (λ before. lost.Call session row op) (λ before shown. Shows w (leaves shown.index) old new before shown.place) old new result
