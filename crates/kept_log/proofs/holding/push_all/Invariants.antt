use Rattle.std.proofs.Common.{◌≡◌, ◌++◌, take}
use Rattle.kept_log.proofs.holding.push_all.Given as goal

-- The first cells wait.
abbrev pub invariant-loop-cell : goal.invariant-loop-cell
invariant-loop-cell l = record { waiting : l.waiting ≡ l.fn.waiting ++ take l.cell-index l.cells }
