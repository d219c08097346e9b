use Rattle.std.proofs.Common.{◌≡◌, take}
use Rattle.commit_book.specs.BatchSteps.{flagged_cells}
use Rattle.commit_book.proofs.batch_steps.cells_of.Given as goal

-- so far, the records of the first operations
abbrev pub invariant-loop-i : goal.invariant-loop-i
invariant-loop-i l = l.cells.items ≡ flagged_cells (take l.i l.changes) (take l.i l.ops)
