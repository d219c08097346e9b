use Rattle.std.proofs.Common.{◌≡◌}
use Rattle.std.specs.Prelude.{map, take}
use Rattle.kept_log.specs.Moved.{lessen_cell}
use Rattle.kept_log.proofs.lessening.all_lessened.Given as goal

-- The first cells are copied.
abbrev pub invariant-loop-cell : goal.invariant-loop-cell
invariant-loop-cell l = record { all : l.all.items ≡ map (lessen_cell l.fn.skipped) (take l.cell-index l.cells) }
