-- What a sync leaves of a pass, and what the log has then.
use Rattle.std.specs.Prelude.{◌≡◌, ℕ, Bool, true, false, List, [], Result, Ok, Err}
use mathlib.Core.List.{IsPrefix}
use Rattle.plain_list.specs.declared.entries.Entry.{Entry}
use Rattle.plain_list.specs.declared.entries.Entry.TheVariants.{Fail}
use Rattle.plain_list.specs.History.{call_count}
use Rattle.disk_trait.specs.Drive.{Drive}
use Rattle.kept_log.specs.Journal.{waiting_in}
use Rattle.commit_book.specs.BookView.{BookView}
use Rattle.commit_book.specs.IsBook.{IsBook}
use Rattle.commit_book.specs.Refusals.{IsMemoryOrDisk, IsRefusedBy, call_refusal}
use Rattle.commit_book.specs.Syncs.{lost_sync}
use Rattle.commit_book.specs.declared.faults.BookFault.{BookFault}
use Rattle.commit_book.specs.declared.faults.BookFault.TheVariants.{Disk}
use Rattle.book_lock.specs.Pass.{Known}
use Rattle.sessions.specs.Shared.{origin_of}
use Rattle.sessions.specs.Steps.{all_parts, has_added, has_seen}

-- Whether a sync has added an entry: the drive failed.
abbrev pub has_lost : {A : Type 0} → Result A BookFault → Bool
has_lost (Err (Disk cell)) = true
has_lost _ = false

-- A sync adds no entry, unless the drive fails. Then the last entry is the pass's own, and has lost no step of the store.
abbrev pub SyncLeaves : Known → List Entry → Known → Result ℕ BookFault → Type 0
SyncLeaves old before new (Ok place) = (new ≡ has_seen old before) × (place ≡ call_count before)
SyncLeaves old before new (Err (Disk cell)) = new ≡ has_added old before (Fail cell lost_sync)
SyncLeaves old before new (Err _) = new ≡ has_seen old before

-- A sync: the history that was seen under the lock, why the sync is refused there, and what it leaves.
pub record SyncsPass (old new : Known) (result : Result ℕ BookFault) : Type 0 where
  pub before : List Entry
  pub later : IsPrefix old.seen before
  pub alone : old.parts ≡ all_parts → before ≡ old.seen
  pub refused : IsRefusedBy IsMemoryOrDisk (call_refusal old.origin.kept before) result
  pub leaves : SyncLeaves old before new result

-- When the pass gave the lock back, the store's book had the history that the pass has seen, and kept it in its log.
pub record Stood {D : Type 0} (drive : D → Drive) (w : ℕ) (pass : Known) : Type 0 where
  pub book : BookView D
  pub is_book : IsBook drive w book
  pub entries : book.entries ≡ pass.seen
  pub origin : origin_of drive book ≡ pass.origin

-- The same, and no record of that history waited. So a crash at that moment left all its changes (`left-durable`,
-- proofs/SyncLemmas). In a store that writes each record at once it follows from `Stood` (`stood-at-once`).
pub record WasDurable {D : Type 0} (drive : D → Drive) (w : ℕ) (pass : Known) : Type 0 where
  pub stood : Stood drive w pass
  pub none_wait : waiting_in stood.book.log ≡ []
