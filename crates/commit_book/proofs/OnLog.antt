-- What a book's log says of its history.
use Rattle.std.proofs.Common.{◌≡◌, ◌≤◌, ℕ, List, Option, Some, None, refl, arith}
use Rattle.plain_list.specs.declared.entries.Entry.{Entry}
use Rattle.plain_list.specs.State.{State}
use Rattle.disk_trait.specs.Drive.{Drive}
use Rattle.kept_log.specs.KeptView.{KeptView, Earlier}
use Rattle.kept_log.specs.Journal.{cells_in, KeepsFrom, KeepsIn, IsSinceIn}
use Rattle.kept_log.specs.Counts.{first_of, first_in, count_after}
use Rattle.kept_log.proofs.Waiting.{own-count}
use Rattle.commit_book.specs.BookInside.{IsInside}
use Rattle.commit_book.specs.Room.{BeginsInRoom}
use Rattle.commit_book.specs.declared.book.Book.TheInside.{Inside}

-- a log has its first cells and those of the history; of one that has replaced another log none are counted
pub in-counted : {D : Type 0} (drive : D → Drive) (w : ℕ) (s : State) (h : List Entry) (log : Option (KeptView D)) → KeepsIn drive w s h log
    → count_after (first_in log) s.world h ≤ cells_in log
in-counted drive w s h None kept = omega arith
in-counted drive w s h (Some log) kept = by_earlier log.earlier kept
  where
    by_earlier : (e : Option (Earlier _)) → KeepsFrom drive w s h log e → count_after (first_of log.first e) s.world h ≤ cells_in (Some log)
    by_earlier None own = omega (arith, own-count drive w s h log own)
    by_earlier (Some e) moved = omega arith

-- the same opening has the same number of first cells
pub in-first : {D : Type 0} (old new : Option (KeptView D)) → IsSinceIn old new → first_in new ≡ first_in old
in-first None None since = refl
in-first None (Some new) since = absurd since
in-first (Some old) None since = absurd since
in-first (Some old) (Some new) since = λ i. first_of (since.first i) (since.earlier i)

-- a book on another log that keeps the history, where the begins of splits were within room by what that log counts
pub inside-on : {I D P : Type 0} (drive : D → Drive) (w : ℕ) (o : State) (b : Inside I D P) (journal : Option (KeptView D)) → IsInside drive w o b
    → BeginsInRoom b.history.kept (first_in journal) o.world b.history.entries → KeepsIn drive w o b.history.entries journal
    → IsInside {I = I} {P = P} drive w o (record { table = b.table; splits = b.splits; history = b.history; journal = journal; opening = b.opening })
inside-on drive w o b journal inside begins on_log = record {
  opening = inside.opening;
  legal = inside.legal;
  world = inside.world;
  names = inside.names;
  splits = inside.splits;
  begun = inside.begun;
  bases = inside.bases;
  begins = begins;
  few = inside.few;
  room = inside.room;
  on_log = on_log;
}
