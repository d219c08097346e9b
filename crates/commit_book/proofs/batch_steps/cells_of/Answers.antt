use Rattle.std.proofs.Common.{◌≡◌, ◌∙◌, ◌+◌, ◌<◌, ◌++◌, [], ℕ, Bool, false, cond, List, take, length, get_or, add-one, sym, ap, arith}
use Rattle.cell_format.specs.declared.cell.Cell.{Cell}
use Rattle.plain_list.specs.declared.ops.Op.{Op}
use Rattle.plain_list.specs.declared.ops.Op.TheVariants.{Put}
use Rattle.log_state.specs.Changes.{change_cells}
use Rattle.commit_book.specs.BatchSteps.{flagged_cells}
use Rattle.commit_book.proofs.BatchLemmas.{flagged_cells-take}
use Rattle.commit_book.proofs.batch_steps.cells_of.Goals as goal

pub loop-i-preserved : goal.loop-i-preserved
loop-i-preserved c =
    let i : ℕ = c.loop-i.i in
    let changes : List Bool = c.args.changes.now in
    let ops : List Op = c.args.ops.now in
    let none : Op = Put 0 (record { x = 0; y = 0 }) 0 in
    let within : i < length ops = omega arith in
    let below : i < length changes = omega (arith, c.requires) in
    let more : flagged_cells (take (i + 1) changes) (take (i + 1) ops) ≡ flagged_cells (take i changes) (take i ops) ++ cond (get_or changes i false) (change_cells (get_or ops i none)) [] =
    rw add-one (flagged_cells-take i changes ops false none below within) in
    c.in_ok-push_cell.ensures ∙ ap (λ (l : List Cell). l ++ cond (get_or changes i false) (change_cells (get_or ops i none)) []) c.loop-i.invariant ∙ sym more
