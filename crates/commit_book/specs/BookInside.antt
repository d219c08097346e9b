-- What a book's fields stand for, and the invariant of a book.
use Rattle.std.specs.Prelude.{◌≡◌, ℕ, ◌≤◌, None, length}
use Rattle.plain_list.specs.State.{State, IsLegal, state_after}
use Rattle.plain_list.specs.History.{failed_cell}
use Rattle.index_layer.specs.Leaves.{names_of}
use Rattle.disk_trait.specs.Drive.{Drive}
use Rattle.kept_log.specs.Journal.{KeepsIn}
use Rattle.kept_log.specs.Counts.{first_in}
use Rattle.commit_book.specs.BookView.{BookView}
use Rattle.commit_book.specs.IsBook.{most_events, IsOpening}
use Rattle.commit_book.specs.KeptBases.{KeepsBases}
use Rattle.commit_book.specs.Room.{BeginsInRoom}
use Rattle.commit_book.specs.declared.book.Book.TheInside.{Inside}

abbrev pub book_of : {I D P : Type 0} → Inside I D P → BookView D
book_of b = record { leaves = b.table.leaves; opening = b.opening; entries = b.history.entries; bucket = b.table.size; log = b.journal; kept = b.history.kept }

-- The table and the open splits are those of the history's state, if the book began at the state o. While no append has
-- failed, the history has memory for the entry that ends each open split.
pub record IsInside {I D P : Type 0} (drive : D → Drive) (w : ℕ) (o : State) (b : Inside I D P) : Type 0 where
  pub opening : IsOpening w o
  pub legal : IsLegal w o b.history.entries
  pub world : b.table.world ≡ (state_after w o b.history.entries).world
  pub names : names_of b.table.leaves ≡ (state_after w o b.history.entries).leaves
  pub splits : b.splits.splits ≡ (state_after w o b.history.entries).splits
  pub begun : b.splits.begun ≡ (state_after w o b.history.entries).begun
  pub bases : KeepsBases w o b.table.leaves b.history.entries
  pub begins : BeginsInRoom b.history.kept (first_in b.journal) o.world b.history.entries
  pub few : length b.history.entries ≤ most_events b.history.kept
  pub room : failed_cell b.history.entries ≡ None → length b.splits.splits ≤ b.history.room
  pub on_log : KeepsIn drive w o b.history.entries b.journal
