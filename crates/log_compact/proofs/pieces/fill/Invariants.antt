use Rattle.std.proofs.Common.{◌≡◌, ◌+◌, ◌*◌, ◌≤◌, ◌∷◌, ◌++◌, take, length}
use Rattle.split_log.specs.LogText.{behind_first}
use Rattle.log_compact.specs.Staging.{AreCells}
use Rattle.log_compact.proofs.pieces.fill.Given as goal

-- The piece so far, and the bytes after the commit byte of the next cell.
abbrev pub invariant-loop-place : goal.invariant-loop-place
invariant-loop-place l = record {
  text : behind_first (l.fn.first ∷ l.initial.cells) ≡ take (32 * l.place) l.piece ++ behind_first (l.cell ∷ l.cells);
  fits : AreCells (l.cell ∷ l.cells) → AreCells (l.fn.first ∷ l.initial.cells);
  fewer : length l.cells + l.place ≤ length l.initial.cells;
  long : length l.piece ≡ 65536;
}
