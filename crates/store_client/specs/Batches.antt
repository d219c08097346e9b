-- Batches of operations, and what a client promises of one.
use Rattle.std.specs.Prelude.{◌≡◌, ℕ, ◌+◌, ◌-◌, ◌/◌, ◌^◌, ◌<◌, ◌≤◌, min, Bool, List, [], ◌∷◌, ◌++◌, length, Option, Some, None, Result, Ok, Err}
use Rattle.std.specs.List.{AllByRecursion}
use Rattle.plain_list.specs.declared.ops.Op.{Op}
use Rattle.plain_list.specs.declared.object_changes.Change.{Change}
use Rattle.commit_book.specs.Answers.{IsUpdate}
use Rattle.commit_book.specs.declared.book.batches.BatchDone.{BatchDone}
use Rattle.book_lock.specs.Pass.{Known}
use Rattle.sessions.specs.Batches.{Applied}
use Rattle.sessions.specs.Calls.{next_full}
use Rattle.sessions.specs.Lanes.{Tries}
use Rattle.sessions.specs.Runs.{HasLooked}
use Rattle.sessions.specs.Splits.{SamePass, SplitEnds}
use Rattle.sessions.specs.declared.faults.CallFault.{CallFault}
use Rattle.sessions.specs.declared.faults.Split.{Split}
use Rattle.store_client.specs.Caller.{Caller}
use Rattle.store_client.specs.Tending.{OrStops}
use Rattle.store_client.specs.declared.batch.NotAdded.{NotAdded}
use Rattle.store_client.specs.declared.batch.NotAdded.TheVariants.{TooLong, Memory}
use Rattle.store_client.specs.declared.batches.Replies.{Replies}

-- The most operations of a batch.
abbrev pub most_batch : ℕ
most_batch = 65536

-- Each operation is a change or a find, and there are not too many.
pub record IsBatch (ops : List Op) : Type 0 where
  pub updates : AllByRecursion IsUpdate ops
  pub few : length ops ≤ most_batch

-- All of these operations were added at the end. They are refused as too many if and only if the batch would pass its
-- limit, and each refusal leaves the batch unchanged.
abbrev pub Adds : {A : Type 0} → List Op → List Op → List Op → Result A NotAdded → Type 0
Adds ops old new (Ok _) = (new ≡ old ++ ops) × (length old + length ops ≤ most_batch)
Adds ops old new (Err TooLong) = (new ≡ old) × (most_batch < length old + length ops)
Adds ops old new (Err Memory) = (new ≡ old) × (length old + length ops ≤ most_batch)

-- The number of the first row of a batch: the client's next one, or a lower one if the numbers would not fit.
abbrev pub first_row : ℕ → ℕ → ℕ
first_row row count = min row (2 ^ 32 - count)

-- The number of the client's next row after so many operations.
abbrev pub row_after : ℕ → ℕ → ℕ
row_after row count = min (row + count) (2 ^ 32 - 1)

-- Splits that were tried one after another, each of the leaf that was next after all that the pass had seen then. `names`
-- has the names of these leaves.
abbrev pub TriesEach : ℕ → Known → List (List Bool) → Known → Type 0
TriesEach w old [] new = HasLooked old new
TriesEach w old (name ∷ names) new = (mid : Known) × (end : Known) × (split : Split) × HasLooked old mid × (next_full w mid ≡ Some name) × SplitEnds w name mid end split × TriesEach w end names new

-- Some such splits, no more than this.
pub record TriesSome (w most : ℕ) (old new : Known) : Type 0 where
  pub names : List (List Bool)
  pub few : length names ≤ most
  pub tries : TriesEach w old names new

-- How many more splits are tried after a batch of so many operations: one for 64 of them.
abbrev pub more_splits : ℕ → ℕ
more_splits count = count / 64

-- What comes after a batch of so many operations: the split of the leaf that it returned, and maybe further splits.
-- Nothing comes if it was refused.
abbrev pub FollowsAll : ℕ → ℕ → Known → Known → Result BatchDone CallFault → Result Replies CallFault → Type 0
FollowsAll w count mid new (Ok done) (Ok replies) =
    (replies.place ≡ done.place) × (replies.answers.items ≡ done.answers.items) × (next : Known) × Tries w done.full mid next replies.split × TriesSome w (more_splits count) next new
FollowsAll w count mid new (Err fault) (Err told) = (told ≡ fault) × (new ≡ mid)
FollowsAll w count mid new (Ok done) (Err told) = ⊥
FollowsAll w count mid new (Err fault) (Ok replies) = ⊥

-- The place of the client's last call: that of the batch, if it was executed.
abbrev pub place_after : ℕ → Result Replies CallFault → ℕ
place_after before (Ok replies) = replies.place
place_after before (Err fault) = before

-- What the client's last call has changed: of a batch that was executed, nothing is kept.
abbrev pub change_after : Option Change → Result Replies CallFault → Option Change
change_after before (Ok replies) = None
change_after before (Err fault) = before

-- A client that has asked for a batch of so many operations.
abbrev pub has_applied : Caller → ℕ → Known → ℕ → Option Change → Caller
has_applied old count pass place change = record { pass = pass; session = old.session; row = row_after old.row count; place = place; change = change }

-- What a client promises of a batch: what the store returned, the pass after that, and the split after it. Nothing else
-- changed. Before the batch the client may have let the store continue over its second file, as before a call.
pub record Applies (w : ℕ) (ops : List Op) (old new : Caller) (result : Result Replies CallFault) : Type 0 where
  pub mid : Known
  pub told : Result BatchDone CallFault
  pub applied : OrStops (Applied w old.session (first_row old.row (length ops)) ops old.pass mid) old.pass mid told
  pub follows : FollowsAll w (length ops) mid new.pass told result
  pub client : new ≡ has_applied old (length ops) new.pass (place_after old.place result) (change_after old.change result)
  pub same : SamePass old.pass new.pass
