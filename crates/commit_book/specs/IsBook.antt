-- The invariant of each book.
use Rattle.std.specs.Prelude.{◌≡◌, ℕ, ◌≤◌, Bool, true, false, [], length, Some}
use Rattle.plain_list.specs.World.{places_of}
use Rattle.plain_list.specs.State.{State, ComesBySplits, IsLegal, state_after}
use Rattle.plain_list.specs.History.{world_after, failed_cell}
use Rattle.index_layer.specs.Stands.{Stands}
use Rattle.disk_trait.specs.Drive.{Drive}
use Rattle.kept_log.specs.Journal.{written_in, KeepsIn, IsSinceIn, IsMovedFromIn}
use Rattle.kept_log.specs.Counts.{first_in}
use Rattle.commit_book.specs.BookView.{BookView}
use Rattle.commit_book.specs.KeptBases.{KeepsBases}
use Rattle.commit_book.specs.Room.{BeginsInRoom}

-- the most entries of a history: of one whose list is kept, and of one whose list isn't, 2 ^ 60
abbrev pub most_events : Bool → ℕ
most_events true = 4194304
most_events false = 1152921504606846976

-- the most splits that may have begun before a book: 2 ^ 62
abbrev pub most_begun : ℕ
most_begun = 4611686018427387904

-- A state at which a book may begin. No split is open. The numbers of later splits fit in 64 bits. The leaves come by
-- splits into children of w bits each.
pub record IsOpening (w : ℕ) (s : State) : Type 0 where
  pub rests : s.splits ≡ []
  pub begun : s.begun ≤ most_begun
  pub comes : ComesBySplits w s.leaves

-- The history is legal from the state at which the book began, and the index stands for its world, with its leaves. The
-- base of each leaf whose split is open has exactly the leaf's rows at the begin. Each split began while there was
-- room. If there is a log, it keeps the history, and a failed append names the number of records in the file.
pub record IsBook {D : Type 0} (drive : D → Drive) (w : ℕ) (b : BookView D) : Type 0 where
  pub opening : IsOpening w b.opening
  pub legal : IsLegal w b.opening b.entries
  pub stands : Stands b.leaves (places_of (world_after b.opening.world b.entries)) (state_after w b.opening b.entries).leaves
  pub bases : KeepsBases w b.opening b.leaves b.entries
  pub room : BeginsInRoom b.kept (first_in b.log) b.opening.world b.entries
  pub few : length b.entries ≤ most_events b.kept
  pub on_log : KeepsIn drive w b.opening b.entries b.log
  pub named : (n : ℕ) → failed_cell b.entries ≡ Some n → n ≡ written_in b.log

-- the same opening state, bucket size, opening of the log, way of writing it, and kind of history: only a rotation changes
-- the first three, and nothing changes the last two in a history that has an entry
pub record SameOrigin {D : Type 0} (old new : BookView D) : Type 0 where
  pub opening : new.opening ≡ old.opening
  pub bucket : new.bucket ≡ old.bucket
  pub log : IsSinceIn old.log new.log
  pub kept : new.kept ≡ old.kept

-- The same origin, of books between which a fresh log may have replaced the log. The first opening of the log is the same.
pub record SameMoved {D : Type 0} (old new : BookView D) : Type 0 where
  pub opening : new.opening ≡ old.opening
  pub bucket : new.bucket ≡ old.bucket
  pub log : IsMovedFromIn old.log new.log
  pub kept : new.kept ≡ old.kept

-- both are books, before a call and after it
pub record AreBooks {D : Type 0} (drive : D → Drive) (w : ℕ) (old new : BookView D) : Type 0 where
  pub before : IsBook drive w old
  pub after : IsBook drive w new
  pub origin : SameOrigin old new

-- both are books, before a fresh log replaces the log and after it
pub record AreMovedBooks {D : Type 0} (drive : D → Drive) (w : ℕ) (old new : BookView D) : Type 0 where
  pub before : IsBook drive w old
  pub after : IsBook drive w new
  pub origin : SameMoved old new
