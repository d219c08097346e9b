-- The state that cells lead to.
use Rattle.std.specs.Prelude.{◌≡◌, ℕ, Bool, List, []}
use Rattle.cell_format.specs.declared.cell.Cell.{Cell}
use Rattle.plain_list.specs.World.{World}
use Rattle.log_state.specs.Recovers.{IsLegalCells, state_of}

-- The cells are legal, and lead to this world and these leaves, with no open split.
pub record IsStateOf (w : ℕ) (cells : List Cell) (world : World) (leaves : List (List Bool)) : Type 0 where
  pub legal : IsLegalCells w cells
  pub world_is : (state_of w cells).world ≡ world
  pub leaves_are : (state_of w cells).leaves ≡ leaves
  pub at_rest : (state_of w cells).splits ≡ []
