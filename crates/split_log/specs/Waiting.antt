-- Cells that wait for an append, as the text that it writes.
use Rattle.std.specs.Prelude.{◌≡◌, ℕ, zero, suc, ◌+◌, ◌*◌, ◌≤◌, List, [], ◌∷◌, ◌++◌, take, drop, Result, Ok, Err}
use Rattle.std.specs.List.{flat_map, AllByRecursion}
use Rattle.cell_format.specs.declared.cell.Cell.{Cell}
use Rattle.cell_format.specs.declared.cell.Cell.TheVariants.{Remove}
use Rattle.cell_format.specs.declared.cell.CellFault.{CellFault}
use Rattle.cell_format.specs.Spelling.{newest, IsCell, spelling}
use Rattle.cell_format.specs.Decoding.{decoded}
use Rattle.split_log.specs.LogView.{most_cells}

-- The largest number of cells that wait where one more may be pushed.
abbrev pub most_waiting : ℕ
most_waiting = 65536

-- The cell that was decoded. Text that waits has no fault.
abbrev pub cell_or_other : Result Cell CellFault → Cell
cell_or_other (Ok cell) = cell
cell_or_other (Err fault) = Remove 0

-- The cells that the first bytes of a text spell, 32 bytes a cell.
abbrev pub spelled_cells : ℕ → List ℕ → List Cell
spelled_cells zero text = []
spelled_cells (suc n) text = cell_or_other (decoded newest (take 32 text)) ∷ spelled_cells n (drop 32 text)

-- The text is that of these cells, each with its commit byte set, and a clear commit byte after the last one. Its memory
-- holds the largest number of cells that wait, and one more.
pub record IsWaiting (count : ℕ) (text : List ℕ) (capacity : ℕ) : Type 0 where
  pub fits : AllByRecursion (IsCell newest) (spelled_cells count text)
  pub spelled : text ≡ flat_map spelling (spelled_cells count text) ++ 0 ∷ []
  pub few : count ≤ most_cells
  pub room : 32 * (most_waiting + 1) + 1 ≤ capacity
