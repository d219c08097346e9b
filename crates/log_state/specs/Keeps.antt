-- What a log keeps of the history since it was opened.
use Rattle.std.specs.Prelude.{◌≡◌, ◌⊎◌, ℕ, List, [], ◌∷◌, ◌++◌, Option, None}
use Rattle.cell_format.specs.declared.cell.Cell.{Cell}
use Rattle.plain_list.specs.World.{World}
use Rattle.plain_list.specs.declared.entries.Entry.{Entry}
use Rattle.disk_trait.specs.Drive.{Drive}
use Rattle.disk_trait.specs.Moments.{LeavesNow, LeavesSince}
use Rattle.split_log.specs.LogText.{IsLog}
use Rattle.log_state.specs.Recovers.{Recovers}
use Rattle.log_state.specs.Changes.{cells_of, IsPrefixRecovered, IsWhollyRecovered}

-- A crash at any moment since `since` left the first cells and then a prefix of the history's cells. A crash now leaves
-- all of them. Until an append fails, the file is their text.
pub record KeepsHistory (w : ℕ) (first : List Cell) (world : World) (h : List Entry) (since : ℕ) (drive : Drive) (failed : Option ℕ) : Type 0 where
  pub any_moment : LeavesSince drive since (IsPrefixRecovered w first world h)
  pub at_end : LeavesNow drive (IsWhollyRecovered w first world h)
  pub log : failed ≡ None → IsLog w (first ++ cells_of world h) drive

-- The image recovers to `cells`, or to `cells` and all of `more`.
abbrev pub RecoversAllOrNone : ℕ → List Cell → List Cell → List ℕ → Type 0
RecoversAllOrNone w cells more image = Recovers w cells image ⊎ Recovers w (cells ++ more) image

-- The image recovers to `cells`, or to `cells` and one more.
abbrev pub RecoversEither : ℕ → List Cell → Cell → List ℕ → Type 0
RecoversEither w cells cell image = RecoversAllOrNone w cells (cell ∷ []) image
