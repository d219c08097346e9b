-- What a walk returns for each cell.
use Rattle.std.specs.Prelude.{◌≡◌, ℕ, true, List, [], ◌∷◌, ◌++◌, length, Option, Some, None}
use Rattle.std.specs.Option.{option_map}
use Rattle.zorder.specs.declared.points.Point.{Point}
use Rattle.cell_format.specs.declared.cell.Cell.{Cell}
use Rattle.cell_format.specs.declared.cell.Cell.TheVariants as cell
use Rattle.plain_list.specs.declared.world.Stamped.{Stamped}
use Rattle.plain_list.specs.World.{World, position_of}
use Rattle.log_state.specs.Recovers.{state_of, is_possible_cell}
use Rattle.recovery.specs.declared.walked.Walked.{Walked}

-- The object that a cell changes. A cell of a split has none.
abbrev pub object_of : Cell → Option ℕ
object_of (cell.Put id at moment) = Some id
object_of (cell.Move id at moment) = Some id
object_of (cell.Remove id) = Some id
object_of (cell.Begin number name) = None
object_of (cell.Install number) = None
object_of (cell.Abandon number) = None

-- The position of an object in a world. It is `None` if the object isn't there, or if no object is named.
abbrev pub place_in : World → Option ℕ → Option Point
place_in world None = None
place_in world (Some id) = option_map (λ (s : Stamped). s.at) (position_of world id)

-- What is returned of the cell after these cells. The cell is possible there.
pub record IsNextWalked (w : ℕ) (cells : List Cell) (walked : Walked) : Type 0 where
  pub at : walked.at ≡ length cells
  pub possible : is_possible_cell w (state_of w cells) walked.cell ≡ true
  pub before : walked.before ≡ place_in (state_of w cells).world (object_of walked.cell)
  pub after : walked.after ≡ place_in (state_of w (cells ++ walked.cell ∷ [])).world (object_of walked.cell)
