-- Steps that may come next in the history of a book, and have a cell there.
use Rattle.std.proofs.Common.{◌≡◌, ℕ, ◌+◌, ◌<◌, ◌≤◌, Bool, true, false, cond, not, List, [], ◌∷◌, ◌++◌, length, Option, Some, None, refl, sym, ap, ◌∙◌, arith}
use Rattle.std.specs.Prelude.{◌&&◌, ◌==◌, is_some}
use Rattle.std.specs.Option.{option_map_or}
use Rattle.std.specs.Cmp.Derive.{both_true}
use Rattle.std.proofs.lemmas.Bool.{eq-eqb, le-leb}
use Rattle.std.proofs.lemmas.Bool.Decides.{nat_tests}
use mathlib.Core.Bool.{true≢false}
use Rattle.plain_list.specs.declared.world.Stamped.{Stamped}
use Rattle.cell_format.specs.declared.cell.Cell.{Cell}
use Rattle.cell_format.specs.declared.cell.Cell.TheVariants as cell
use Rattle.plain_list.specs.declared.ops.Op.{Op}
use Rattle.plain_list.specs.declared.ops.Op.TheVariants.{Put, Move, Remove, Find, Within, Near}
use Rattle.plain_list.specs.declared.entries.Entry.{Entry}
use Rattle.plain_list.specs.declared.entries.Lost.{Lost}
use Rattle.plain_list.specs.declared.entries.Lost.TheVariants as lost
use Rattle.plain_list.specs.declared.ops.Answer.TheVariants.{At, Absent}
use Rattle.plain_list.specs.World.{World, position_of}
use Rattle.plain_list.specs.Answer.{answer_of, is_change}
use Rattle.plain_list.specs.History.{world_after, failed_cell}
use Rattle.plain_list.specs.State.{State, IsLegal, OpenSplit, state_after, is_possible, is_free, split_name}
use Rattle.plain_list.proofs.Histories.{has_failed-none}
use Rattle.log_state.specs.Changes.{cells_of, change_cells, lost_cells}
use Rattle.commit_book.specs.Answers.{IsUpdate}
use Rattle.commit_book.specs.Refusals.{most_cells, most_cells_to_begin}
use Rattle.commit_book.specs.Steps.{entry_of, IsStep}
use Rattle.commit_book.proofs.BookStates.{steps_on}
use Rattle.commit_book.proofs.RefusalLemmas.{MayBegin}

module _ (w : ℕ) (o : State) (h : List Entry) (legal : IsLegal w o h) (going : failed_cell h ≡ None) where
  step_next : (step : Lost) → (is_possible w (state_after w o h) (entry_of step) && is_free (state_after w o h) (entry_of step)) ≡ true
      → cells_of (world_after o.world h) (entry_of step ∷ []) ≡ lost_cells step → IsStep w o h step
  step_next step may cells = record { legal = (steps_on w o h (entry_of step) legal (has_failed-none h going) may).legal; cells = cells }

  -- a call that changes the world
  pub call_step : (session row : ℕ) (op : Op) → is_change (answer_of (world_after o.world h) op) ≡ true → IsStep w o h (lost.Call session row op)
  call_step session row op change = step_next (lost.Call session row op) refl (some_cells (is_change (answer_of (world_after o.world h) op)) (change_cells op) change)
    where
      no_more : (cells : List Cell) → cells ++ [] ≡ cells
      no_more [] = refl
      no_more (c ∷ cells) = ap (λ (rest : List Cell). c ∷ rest) (no_more cells)

      some_cells : (b : Bool) (cells : List Cell) → b ≡ true → cond b cells [] ++ [] ≡ cells
      some_cells true cells e = no_more cells
      some_cells false cells e = absurd (true≢false (sym e))

  -- a split that may begin
  pub begin_step : (kept : Bool) (cells number : ℕ) (name : List Bool) → MayBegin kept w (state_after w o h) h cells name → number ≡ (state_after w o h).begun + 1 → IsStep w o h (lost.Begin number name)
  begin_step kept cells number name may next =
      step_next (lost.Begin number name)
      (both_true (both_true (eq-eqb number ((state_after w o h).begun + 1) next) (both_true may.leaf (le-leb (length name + w) 64 may.short))) (ap not may.free)) refl

  -- and the end of an open one
  pub install_step : (number : ℕ) (name : List Bool) → split_name (state_after w o h).splits number ≡ Some name → IsStep w o h (lost.Install number)
  install_step number name found = step_next (lost.Install number) (both_true (ap (λ (n : Option (List Bool)). is_some n) found) refl) refl

  pub abandon_step : (number : ℕ) (name : List Bool) → split_name (state_after w o h).splits number ≡ Some name → IsStep w o h (lost.Abandon number)
  abandon_step number name found = step_next (lost.Abandon number) (both_true (ap (λ (n : Option (List Bool)). is_some n) found) refl) refl

-- a call that changes the world has a cell
pub cell_there : (op : Op) (world : World) → IsUpdate op → is_change (answer_of world op) ≡ true → (c : Cell) × (change_cells op ≡ c ∷ [])
cell_there (Put id at moment) world is change = (cell.Put id at moment, refl)
cell_there (Move id at moment) world is change = (cell.Move id at moment, refl)
cell_there (Remove id) world is change = (cell.Remove id, refl)
cell_there (Find id) world is change = absurd (true≢false (sym change ∙ no_change (position_of world id)))
  where
    no_change : (kept : Option Stamped) → is_change (option_map_or At kept Absent) ≡ false
    no_change None = refl
    no_change (Some s) = refl
cell_there (Within region) world is change = absurd is
cell_there (Near at k) world is change = absurd is

-- an open split is one of some
pub some_open : (splits : List OpenSplit) (number : ℕ) (name : List Bool) → split_name splits number ≡ Some name → 0 < length splits
some_open [] number name found = cc found
some_open (o ∷ splits) number name found = omega arith

-- a log with few cells hasn't all
pub few_cells : (n : ℕ) → n ≤ most_cells_to_begin → (n == most_cells) ≡ false
few_cells n le = grind (arith, nat_tests)
