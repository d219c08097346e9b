-- The cells of a batch, and those of its lost changes.
use Rattle.std.proofs.Common.{◌≡◌, ℕ, ◌+◌, Bool, true, false, cond, List, [], ◌∷◌, ◌++◌, length, refl, sym, ◌∙◌, ap, arith}
use Rattle.std.proofs.lemmas.List.{append-nil}
use Rattle.std.proofs.lemmas.List.Sums.{sum_by-cons}
use mathlib.Core.Bool.{true≢false}
use Rattle.std.specs.List.{count_by}
use Rattle.cell_format.specs.declared.cell.Cell.{Cell}
use Rattle.cell_format.specs.declared.cell.Cell.TheVariants as cell
use Rattle.plain_list.specs.declared.ops.Op.{Op}
use Rattle.plain_list.specs.declared.ops.Op.TheVariants as op
use Rattle.plain_list.specs.declared.entries.Entry.{Entry}
use Rattle.plain_list.specs.declared.entries.Entry.TheVariants.{Fail, Call, Begin, Install, Abandon}
use Rattle.plain_list.specs.declared.entries.Lost.TheVariants as lost
use Rattle.plain_list.specs.World.{World}
use Rattle.plain_list.specs.Answer.{answer_of, after_of, is_change}
use Rattle.plain_list.specs.History.{world_after}
use Rattle.plain_list.specs.State.{are_fails}
use Rattle.plain_list.specs.Batch.{answers_to, batch_calls, batch_fails}
use Rattle.plain_list.proofs.Batches.{batch_fails-are}
use Rattle.plain_list.proofs.ToldChanges.{is_some-change_of}
use Rattle.log_state.specs.Changes.{cells_of, change_cells, failed_cells}
use Rattle.log_state.proofs.PlacedChanges.{cells_of-append}

no_change : {X : Type 0} (world : World) (o : Op) → is_change (answer_of world o) ≡ true → is_change (answer_of world o) ≡ false → X
no_change world o is isnt = absurd (true≢false (sym is ∙ isnt))

-- An operation that changes a world has one cell.
pub change-cell : (world : World) (o : Op) → is_change (answer_of world o) ≡ true → (c : Cell) × (change_cells o ≡ c ∷ [])
change-cell world (op.Put id at moment) is = (cell.Put id at moment, refl)
change-cell world (op.Move id at moment) is = (cell.Move id at moment, refl)
change-cell world (op.Remove id) is = (cell.Remove id, refl)
change-cell world (op.Find id) is = no_change world (op.Find id) is (sym (is_some-change_of 0 world (op.Find id)))
change-cell world (op.Within region) is = no_change world (op.Within region) is (sym (is_some-change_of 0 world (op.Within region)))
change-cell world (op.Near at k) is = no_change world (op.Near at k) is (sym (is_some-change_of 0 world (op.Near at k)))

-- A batch has as many cells as changes.
pub length-batch_cells : (world : World) (session row : ℕ) (ops : List Op) → length (cells_of world (batch_calls session row ops)) ≡ count_by is_change (answers_to world ops)
length-batch_cells world session row [] = refl
length-batch_cells world session row (o ∷ ops) =
    by_test (is_change (answer_of world o)) (change-cell world o) (length-batch_cells (after_of world o) session (row + 1) ops)
    ∙ sym (sum_by-cons (λ a. cond (is_change a) 1 0) (answer_of world o) (answers_to (after_of world o) ops))
  where
    by_test : (b : Bool) → (b ≡ true → (c : Cell) × (change_cells o ≡ c ∷ []))
        → length (cells_of (after_of world o) (batch_calls session (row + 1) ops)) ≡ count_by is_change (answers_to (after_of world o) ops)
        → length (cond b (change_cells o) [] ++ cells_of (after_of world o) (batch_calls session (row + 1) ops)) ≡ cond b 1 0 + count_by is_change (answers_to (after_of world o) ops)
    by_test true one rest =
        let (c, same) = one refl in
        ap (λ l. length (l ++ cells_of (after_of world o) (batch_calls session (row + 1) ops))) same ∙ omega (arith, rest)
    by_test false one rest = omega (arith, rest)

-- The lost cells of a batch are the cells that it would have had.
pub failed_cells-batch_fails : (number : ℕ) (world : World) (session row : ℕ) (ops : List Op) → failed_cells (batch_fails number world session row ops) ≡ cells_of world (batch_calls session row ops)
failed_cells-batch_fails number world session row [] = refl
failed_cells-batch_fails number world session row (o ∷ ops) =
    by_test (is_change (answer_of world o)) (failed_cells-batch_fails number (after_of world o) session (row + 1) ops)
  where
    by_test : (b : Bool) → failed_cells (batch_fails number (after_of world o) session (row + 1) ops) ≡ cells_of (after_of world o) (batch_calls session (row + 1) ops)
        → failed_cells (cond b (Fail number (lost.Call session row o) ∷ []) [] ++ batch_fails number (after_of world o) session (row + 1) ops)
        ≡ cond b (change_cells o) [] ++ cells_of (after_of world o) (batch_calls session (row + 1) ops)
    by_test true rest = ap (λ l. change_cells o ++ l) rest
    by_test false rest = rest

-- Failed appends have no cells.
pub cells_of-fails : (world : World) (fs : List Entry) → are_fails fs ≡ true → cells_of world fs ≡ []
cells_of-fails world [] all = refl
cells_of-fails world (Fail number lost ∷ fs) all = cells_of-fails world fs all
cells_of-fails world (Call session row o ∷ fs) all = absurd (true≢false (sym all))
cells_of-fails world (Begin number name ∷ fs) all = absurd (true≢false (sym all))
cells_of-fails world (Install number ∷ fs) all = absurd (true≢false (sym all))
cells_of-fails world (Abandon number ∷ fs) all = absurd (true≢false (sym all))

-- A history with failed appends at its end has the cells that it has without them.
pub cells_of-with_fails : (world : World) (h fs : List Entry) → are_fails fs ≡ true → cells_of world (h ++ fs) ≡ cells_of world h
cells_of-with_fails world h fs all =
    cells_of-append world h fs ∙ ap (λ l. cells_of world h ++ l) (cells_of-fails (world_after world h) fs all) ∙ append-nil (cells_of world h)
