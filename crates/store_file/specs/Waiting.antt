-- A store whose records wait for a sync. Otherwise it is as one that writes each record at once.
use Rattle.std.specs.Prelude.{◌≡◌, ℕ, length, ◌++◌, ◌∷◌, [], Bool, true, false, List, Some, None}
use Rattle.std.specs.Option.{option_map}
use Rattle.disk_trait.specs.Drive.{Drive}
use Rattle.plain_list.specs.State.{IsLegal}
use Rattle.plain_list.specs.declared.entries.Entry.{Entry}
use Rattle.plain_list.specs.declared.entries.Entry.TheVariants.{Fail}
use Rattle.kept_log.specs.KeptView.{KeptView}
use Rattle.kept_log.specs.Journal.{KeepsIn, failed_cell, waits_from}
use Rattle.book_lock.specs.Own.{times, once_below}
use Rattle.book_lock.specs.Pass.{Known}
use Rattle.book_lock.specs.declared.origin.Origin.{Origin}
use Rattle.book_lock.specs.declared.origin.LogStart.{LogStart}
use Rattle.commit_book.specs.BookView.{BookView}
use Rattle.commit_book.specs.IsBook.{most_events}
use Rattle.commit_book.specs.Syncs.{lost_sync}
use Rattle.commit_book.specs.declared.faults.BookFault.{BookFault}
use Rattle.commit_book.specs.declared.faults.BookFault.TheVariants as book
use Rattle.sessions.specs.Shared.{start_in, start_of}
use Rattle.store_file.specs.declared.waiting.SyncCause.{SyncCause}
use Rattle.store_file.specs.declared.waiting.SyncCause.TheVariants.{Closed, Disk, HistoryFull, Memory}

-- The same origin, of a store whose records wait for a sync.
abbrev pub waiting_origin : Origin → Origin
waiting_origin o = record o { log = option_map (λ (log : LogStart). record log { at_sync = true }) o.log }

-- The same pass, of such a store.
abbrev pub waiting_pass : Known → Known
waiting_pass pass = record pass { origin = waiting_origin pass.origin }

-- The fact holds of this pass, but for the records of its store, which wait for a sync.
pub record IsAtSync (Of : Known → Type 0) (pass : Known) : Type 0 where
  pub first : Known
  pub of : Of first
  pub pass_is : pass ≡ waiting_pass first

-- The fact holds of the pass of a store that writes each record at once, or whose records wait for a sync.
abbrev pub Writes : Bool → (Known → Type 0) → Known → Type 0
Writes false Of pass = Of pass
Writes true Of pass = IsAtSync Of pass

-- The same book, whose records wait for a sync if so.
abbrev pub book_at : {D : Type 0} → Bool → BookView D → BookView D
book_at false b = b
book_at true b = record b { log = option_map waits_from b.log }

-- What a store leaves if the records that waited at its close aren't all in its file. The history that its log keeps
-- ends with these entries. The file may lack records from `log.cells` on. `moves` says whether a fresh log may replace it.
pub record KeepsUnsynced {D : Type 0} (drive : D → Drive) (w : ℕ) (moves : Bool) (pass : Known) (more : List Entry) (disk : D) : Type 0 where
  pub own : (p : ℕ) → times p pass.own ≡ once_below p (length pass.seen)
  pub legal : IsLegal w (start_of pass.origin) pass.seen
  pub log : KeptView D
  pub disk_is : log.disk ≡ disk
  pub began : pass.origin.log ≡ Some (start_in drive log)
  pub moves_is : log.moves ≡ moves
  pub keeps : KeepsIn drive w (start_of pass.origin) (pass.seen ++ more) (Some log)

-- The same, and this record is the first one that the file may lack.
pub record LacksFrom {D : Type 0} (drive : D → Drive) (w : ℕ) (moves : Bool) (pass : Known) (more : List Entry) (cell : ℕ) (disk : D) : Type 0 where
  pub keeps : KeepsUnsynced drive w moves pass more disk
  pub cell_is : cell ≡ keeps.log.cells

-- Why the file may lack records, and what is left. An append had failed before. Or the drive failed at the close: then
-- the history ends with an entry of that failure, and a crash leaves all records that waited or none. Or nothing was
-- written, since memory ran out or the history was full.
abbrev pub EndsUnsynced : {D : Type 0} → (D → Drive) → ℕ → Bool → Known → D → SyncCause → Type 0
EndsUnsynced drive w moves pass disk (Closed cell) = (failed_cell pass.seen ≡ Some cell) × LacksFrom drive w moves pass [] cell disk
EndsUnsynced drive w moves pass disk (Disk cell) = (failed_cell pass.seen ≡ None) × LacksFrom drive w moves pass (Fail cell lost_sync ∷ []) cell disk
EndsUnsynced drive w moves pass disk Memory = (failed_cell pass.seen ≡ None) × KeepsUnsynced drive w moves pass [] disk
EndsUnsynced drive w moves pass disk HistoryFull = (failed_cell pass.seen ≡ None) × (length pass.seen ≡ most_events pass.origin.kept) × KeepsUnsynced drive w moves pass [] disk

-- The same of a store whose log no fresh one may replace.
abbrev pub ClosesUnsynced : {D : Type 0} → (D → Drive) → ℕ → Known → D → SyncCause → Type 0
ClosesUnsynced drive w pass disk cause = EndsUnsynced drive w false pass disk cause

-- The cause that a fault of a sync is reported as.
abbrev pub sync_cause : BookFault → SyncCause
sync_cause (book.Closed cell) = Closed cell
sync_cause (book.Disk cell) = Disk cell
sync_cause book.HistoryFull = HistoryFull
sync_cause _ = Memory
