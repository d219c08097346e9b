-- The step that a failed append lost.
use Rattle.std.specs.Prelude.{◌≡◌, ℕ, List, [], ◌∷◌, ◌++◌, None, true, ◌&&◌, IsTrue}
use Rattle.plain_list.specs.declared.ops.Op.{Op}
use Rattle.plain_list.specs.declared.entries.Entry.{Entry}
use Rattle.plain_list.specs.declared.entries.Entry.TheVariants as entry
use Rattle.plain_list.specs.declared.entries.Lost.{Lost}
use Rattle.plain_list.specs.declared.entries.Lost.TheVariants.{Call, Begin, Install, Abandon}
use Rattle.plain_list.specs.Answer.{answer_of, is_change}
use Rattle.plain_list.specs.History.{world_after, failed_cell}
use Rattle.plain_list.specs.Played.{calls_of}
use Rattle.plain_list.specs.State.{State, state_after, is_possible, is_free}
use Rattle.csv_rows.specs.declared.rows.InRow.{InRow}
use Rattle.lane_history.specs.SessionRows.{session_rows}

-- after the calls of its session this row is next, with its number and its operation
pub record IsNextRow (rows : List InRow) (before : List Entry) (session row : ℕ) (op : Op) : Type 0 where
  pub rest : List (ℕ × Op)
  pub next : session_rows rows session ≡ calls_of session before ++ (row, op) ∷ rest

-- the step of a split is possible after a history, and a begin is of a leaf without an open split
abbrev pub IsSplitStep : ℕ → State → List Entry → Lost → Type 0
IsSplitStep w s before (Call session row op) = ⊥
IsSplitStep w s before (Begin number name) = IsTrue (is_possible w (state_after w s before) (entry.Begin number name) && is_free (state_after w s before) (entry.Begin number name))
IsSplitStep w s before (Install number) = IsTrue (is_possible w (state_after w s before) (entry.Install number))
IsSplitStep w s before (Abandon number) = IsTrue (is_possible w (state_after w s before) (entry.Abandon number))

-- the lost step is the next row of its session, which would have changed the world, or a possible step of a split
abbrev pub IsNextStep : ℕ → State → List InRow → List Entry → Lost → Type 0
IsNextStep w s rows before (Call session row op) = IsNextRow rows before session row op × (is_change (answer_of (world_after s.world before) op) ≡ true)
IsNextStep w s rows before lost = IsSplitStep w s before lost

-- The history ends with the failed append of the record with this number. `before` is what it had until then, without a
-- failure, and `lost` is the lost step.
pub record LosesStep (Step : List Entry → Lost → Type 0) (h : List Entry) (cell : ℕ) : Type 0 where
  pub before : List Entry
  pub lost : Lost
  pub entries : h ≡ before ++ entry.Fail cell lost ∷ []
  pub going : failed_cell before ≡ None
  pub step : Step before lost
