-- Failed appends that have lost these cells.
use Rattle.std.proofs.Common.{◌≡◌, ◌≢◌, ℕ, List, [], ◌∷◌, ◌++◌, refl, ◌∙◌, ap}
use Rattle.cell_format.specs.declared.cell.Cell.{Cell}
use Rattle.cell_format.specs.declared.cell.Cell.TheVariants.{Put, Move, Remove, Begin, Install, Abandon}
use Rattle.plain_list.specs.declared.ops.Op.TheVariants as op
use Rattle.plain_list.specs.declared.entries.Entry.{Entry}
use Rattle.plain_list.specs.declared.entries.Entry.TheVariants.{Fail}
use Rattle.plain_list.specs.declared.entries.Lost.{Lost}
use Rattle.plain_list.specs.declared.entries.Lost.TheVariants as lost
use Rattle.plain_list.specs.Batch.{AreFailsOf}
use Rattle.log_state.specs.Changes.{failed_cells, lost_cells}

-- A step that has this cell.
abbrev step_for : Cell → Lost
step_for (Put id at moment) = lost.Call 0 0 (op.Put id at moment)
step_for (Move id at moment) = lost.Call 0 0 (op.Move id at moment)
step_for (Remove id) = lost.Call 0 0 (op.Remove id)
step_for (Begin number name) = lost.Begin number name
step_for (Install number) = lost.Install number
step_for (Abandon number) = lost.Abandon number

step_for-cells : (cell : Cell) → lost_cells (step_for cell) ≡ cell ∷ []
step_for-cells (Put id at moment) = refl
step_for-cells (Move id at moment) = refl
step_for-cells (Remove id) = refl
step_for-cells (Begin number name) = refl
step_for-cells (Install number) = refl
step_for-cells (Abandon number) = refl

-- A step without a cell.
abbrev pub no_step : Lost
no_step = lost.Call 0 0 (op.Find 0)

-- A failed append of this number for each cell.
abbrev pub fails_for : ℕ → List Cell → List Entry
fails_for number [] = []
fails_for number (cell ∷ cells) = Fail number (step_for cell) ∷ fails_for number cells

module _ (number : ℕ) where
  pub fails_for-are : (cells : List Cell) (last : List Entry) → AreFailsOf number last → AreFailsOf number (fails_for number cells ++ last)
  fails_for-are [] last all = all
  fails_for-are (cell ∷ cells) last all = (refl, fails_for-are cells last all)

  pub fails_for-some : (cells : List Cell) (last : List Entry) → last ≢ [] → fails_for number cells ++ last ≢ []
  fails_for-some [] last some = some
  fails_for-some (cell ∷ cells) last some = λ none. cc none

  pub fails_for-cells : (cells : List Cell) (last : List Entry) → failed_cells (fails_for number cells ++ last) ≡ cells ++ failed_cells last
  fails_for-cells [] last = refl
  fails_for-cells (cell ∷ cells) last = (λ i. step_for-cells cell i ++ failed_cells (fails_for number cells ++ last)) ∙ ap (λ l. cell ∷ l) (fails_for-cells cells last)
