-- The cells of a history, and what a crash may leave of them.
use Rattle.std.specs.Prelude.{◌⊎◌, ℕ, List, [], ◌∷◌, ◌++◌, take, if◌then◌else◌}
use Rattle.cell_format.specs.declared.cell.Cell.{Cell}
use Rattle.cell_format.specs.declared.cell.Cell.TheVariants as cell
use Rattle.plain_list.specs.declared.ops.Op.{Op}
use Rattle.plain_list.specs.declared.ops.Op.TheVariants as op
use Rattle.plain_list.specs.declared.entries.Lost.{Lost}
use Rattle.plain_list.specs.declared.entries.Lost.TheVariants as lost
use Rattle.plain_list.specs.declared.entries.Entry.{Entry}
use Rattle.plain_list.specs.declared.entries.Entry.TheVariants as entry
use Rattle.plain_list.specs.World.{World}
use Rattle.plain_list.specs.Answer.{answer_of, after_of, is_change}
use Rattle.log_state.specs.Recovers.{Recovers}

-- The cells of an operation that changes a world. A question has none.
abbrev pub change_cells : Op → List Cell
change_cells (op.Put id at moment) = cell.Put id at moment ∷ []
change_cells (op.Move id at moment) = cell.Move id at moment ∷ []
change_cells (op.Remove id) = cell.Remove id ∷ []
change_cells (op.Find id) = []
change_cells (op.Within region) = []
change_cells (op.Near at k) = []

-- The cells of a history: those of its changes and of the steps of its splits. A failed append has none.
abbrev pub cells_of : World → List Entry → List Cell
cells_of world [] = []
cells_of world (entry.Call session row op ∷ h) = (if is_change (answer_of world op) then change_cells op else []) ++ cells_of (after_of world op) h
cells_of world (entry.Begin number name ∷ h) = cell.Begin number name ∷ cells_of world h
cells_of world (entry.Install number ∷ h) = cell.Install number ∷ cells_of world h
cells_of world (entry.Abandon number ∷ h) = cell.Abandon number ∷ cells_of world h
cells_of world (entry.Fail number lost ∷ h) = cells_of world h

-- The cells of a step whose append failed.
abbrev pub lost_cells : Lost → List Cell
lost_cells (lost.Call session row op) = change_cells op
lost_cells (lost.Begin number name) = cell.Begin number name ∷ []
lost_cells (lost.Install number) = cell.Install number ∷ []
lost_cells (lost.Abandon number) = cell.Abandon number ∷ []

-- The cells of the failed appends with which a history ends.
abbrev pub failed_cells : List Entry → List Cell
failed_cells [] = []
failed_cells (entry.Fail number lost ∷ h) = lost_cells lost ++ failed_cells h
failed_cells (entry.Call session row op ∷ h) = failed_cells h
failed_cells (entry.Begin number name ∷ h) = failed_cells h
failed_cells (entry.Install number ∷ h) = failed_cells h
failed_cells (entry.Abandon number ∷ h) = failed_cells h

-- The image recovers to the first cells and then a prefix of the history's cells. The cells of failed appends may
-- follow the last of them.
abbrev pub IsPrefixRecovered : ℕ → List Cell → World → List Entry → List ℕ → Type 0
IsPrefixRecovered w first world h image = (m : ℕ) × Recovers w (first ++ take m (cells_of world h ++ failed_cells h)) image

-- The image recovers to the first cells and then all cells of the history. The cells of all failed appends may follow
-- them.
abbrev pub IsWhollyRecovered : ℕ → List Cell → World → List Entry → List ℕ → Type 0
IsWhollyRecovered w first world h image =
    Recovers w (first ++ cells_of world h) image ⊎ Recovers w (first ++ (cells_of world h ++ failed_cells h)) image
