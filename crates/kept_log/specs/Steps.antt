-- Which entry may come next in what a log has kept.
use Rattle.std.specs.Prelude.{◌≡◌, ℕ, List, [], ◌∷◌, ◌++◌, None}
use Rattle.cell_format.specs.declared.cell.Cell.{Cell}
use Rattle.plain_list.specs.declared.entries.Entry.{Entry}
use Rattle.plain_list.specs.History.{world_after, failed_cell}
use Rattle.plain_list.specs.State.{State, IsLegal}
use Rattle.log_state.specs.Changes.{cells_of}
use Rattle.kept_log.specs.KeptView.{KeptView}

-- The entry may come next in the history, and this is its cell.
pub record IsNext (w : ℕ) (s : State) (h : List Entry) (e : Entry) (cell : Cell) : Type 0 where
  pub legal : IsLegal w s (h ++ e ∷ [])
  pub cells : cells_of (world_after s.world h) (e ∷ []) ≡ cell ∷ []

-- The entries may come next in the history, in this order, and these are their cells. No failed append is among them.
pub record AreNext (w : ℕ) (s : State) (h es : List Entry) (more : List Cell) : Type 0 where
  pub legal : IsLegal w s (h ++ es)
  pub sound : failed_cell es ≡ None
  pub cells : cells_of (world_after s.world h) es ≡ more

-- Both come from the same opening, and cells are added in the same way. No log has replaced another one in between.
pub record IsSince {D : Type 0} (old new : KeptView D) : Type 0 where
  pub start : new.start ≡ old.start
  pub first : new.first ≡ old.first
  pub at_sync : new.at_sync ≡ old.at_sync
  pub moves : new.moves ≡ old.moves
  pub earlier : new.earlier ≡ old.earlier

-- The new log may be another one. Both come from the same first opening, and cells are added in the same way.
pub record IsMovedFrom {D : Type 0} (old new : KeptView D) : Type 0 where
  pub start : new.start ≡ old.start
  pub first : new.first ≡ old.first
  pub at_sync : new.at_sync ≡ old.at_sync
  pub moves : new.moves ≡ old.moves
